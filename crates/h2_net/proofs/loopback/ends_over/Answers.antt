-- The client is the one that was made.
use Rattle.std.proofs.lemmas.Result.{err_from_is_err_and}
use Rattle.h2_net.proofs.loopback.ends_over.Goals as goal

pub returns-in_err-client-clause-err : goal.returns-in_err-client-clause-err
returns-in_err-client-clause-err g c = λ count is.
    let answer = err_from_is_err_and c.from_residual.result c.from_residual.ensures.1 in
    rw (answer.1, answer.2) (c.in_err-client.ensures.err count is)

pub returns-clause-posts : goal.returns-clause-posts
returns-clause-posts g c = λ count is. c.in_ok-client.ensures.posts count is
