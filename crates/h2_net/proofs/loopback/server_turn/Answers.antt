-- The client goes on, or ends early.
use Rattle.std.proofs.Common.{Ok, Err}
use Rattle.std.proofs.lemmas.Result.{err_from_is_err_and}
use Rattle.h2_net.proofs.PostingLemmas.{server_puts, takes_on}
use Rattle.h2_net.proofs.loopback.server_turn.Goals as goal

pub returns-in_err-is_whole-clause-posts : goal.returns-in_err-is_whole-clause-posts
returns-in_err-is_whole-clause-posts g c = λ count is.
    let answer = err_from_is_err_and c.from_residual-in_err-is_whole.result
    c.from_residual-in_err-is_whole.ensures.1 in
    let error = c.in_err-is_whole.field-0.0 in
    rw (answer.1, answer.2) (takes_on count c.args.ends.now.client c.take_in.new.self _
    (Err error) c.in_err-is_whole.ensures.takes c.in_err-is_whole.ensures.whole is)

pub returns-clause-posts : goal.returns-clause-posts
returns-clause-posts g c = λ count is.
    takes_on count c.args.ends.now.client c.take_in.new.self _ (Ok c.in_ok-is_whole.is_whole)
    c.in_ok-is_whole.ensures.takes c.in_ok-is_whole.ensures.whole is

pub returns-clause-puts : goal.returns-clause-puts
returns-clause-puts g c =
    server_puts _ _ _ c.in_ok-put_out.field-0 _ _ c.clear.ensures.items c.in_ok-put_out.ensures.puts
