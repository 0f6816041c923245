-- A new client posts, and its request is not refused.
use Rattle.std.proofs.lemmas.Result.{err_from_is_err_and}
use Rattle.h2_net.proofs.PostedRequest.{of_fields, post_not_refused}
use Rattle.h2_net.proofs.PostingLemmas.{begins_posting, memory_not_refused}
use Rattle.h2_net.proofs.loopback.machines.Goals as goal

pub returns-in_err-client-clause-err : goal.returns-in_err-client-clause-err
returns-in_err-client-clause-err c = λ count message.
    let answer = err_from_is_err_and c.from_residual.result
    c.from_residual.ensures.1 in
    let is = c.default.ensures in
    rw (answer.1, answer.2) (post_not_refused count _ _ c.in_err-client.field-0.0
    (of_fields _ _ _ _ is.0 is.1 is.2 is.3) message c.in_err-client.ensures.refused)

pub returns-in_err-server-clause-err : goal.returns-in_err-server-clause-err
returns-in_err-server-clause-err c = λ count message.
    let answer = err_from_is_err_and c.from_residual-in_err-server.result
    c.from_residual-in_err-server.ensures.1 in
    rw (answer.1, answer.2) (memory_not_refused _ c.in_err-server.ensures.err)

pub returns-clause-posts : goal.returns-clause-posts
returns-clause-posts c = λ count message.
    let is = c.default.ensures in
    begins_posting count _ _ c.in_ok-client.client
    (of_fields _ _ _ _ is.0 is.1 is.2 is.3) message c.in_ok-client.ensures.ok
    c.in_ok-client.ensures.unfinished
