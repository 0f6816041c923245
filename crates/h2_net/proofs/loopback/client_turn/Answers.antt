-- The client goes on, or ends early.
use Rattle.std.proofs.Common.{Ok, Err}
use Rattle.std.proofs.lemmas.Result.{err_from_is_err_and}
use Rattle.h2_net.proofs.PostingLemmas.{client_puts, puts_on, server_not_refused}
use Rattle.h2_net.proofs.loopback.client_turn.Goals as goal

pub returns-in_err-put_out-clause-posts : goal.returns-in_err-put_out-clause-posts
returns-in_err-put_out-clause-posts g c = λ count is.
    let answer = err_from_is_err_and c.from_residual.result c.from_residual.ensures.1 in
    let error = c.in_err-put_out.field-0.0 in
    rw (answer.1, answer.2) (puts_on count c.args.ends.now.client c.put_out.new.self _ _ _
    (Err error) c.in_err-put_out.ensures.puts is)

pub returns-in_err-count-clause-posts : goal.returns-in_err-count-clause-posts
returns-in_err-count-clause-posts g c = λ count is.
    let answer = err_from_is_err_and c.from_residual-in_err-count.result
    c.from_residual-in_err-count.ensures.1 in
    rw (answer.1, answer.2) c.in_err-count.ensures.err

pub returns-in_err-take_in-clause-posts : goal.returns-in_err-take_in-clause-posts
returns-in_err-take_in-clause-posts g c = λ count is.
    let answer = err_from_is_err_and c.from_residual-in_err-take_in.result
    c.from_residual-in_err-take_in.ensures.1 in
    let error = c.in_err-take_in.field-0.0 in
    rw (answer.1, answer.2) (server_not_refused error c.in_err-take_in.ensures.err)

pub returns-clause-posts : goal.returns-clause-posts
returns-clause-posts g c = λ count is.
    puts_on count c.args.ends.now.client c.put_out.new.self _ _ _ (Ok c.in_ok-put_out.field-0)
    c.in_ok-put_out.ensures.puts is

pub returns-clause-puts : goal.returns-clause-puts
returns-clause-puts g c =
    client_puts _ _ _ c.in_ok-put_out.field-0 _ _ c.clear.ensures.items c.in_ok-put_out.ensures.puts
