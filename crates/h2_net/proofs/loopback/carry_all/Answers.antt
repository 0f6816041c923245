-- The client goes on in each round, or ends early.
use Rattle.std.proofs.lemmas.Result.{err_from_is_err_and}
use Rattle.h2_net.proofs.loopback.carry_all.Goals as goal

pub returns-in_err-client_turn-clause-posts : goal.returns-in_err-client_turn-clause-posts
returns-in_err-client_turn-clause-posts g c = λ count is.
    let answer = err_from_is_err_and c.from_residual.result c.from_residual.ensures.1 in
    rw (answer.1, answer.2)
    (c.in_err-client_turn.ensures.posts count (c.loop.invariant.posts count is))

pub returns-in_err-has_ended-clause-posts : goal.returns-in_err-has_ended-clause-posts
returns-in_err-has_ended-clause-posts g c = λ count is.
    let answer = err_from_is_err_and c.from_residual-in_err-has_ended.result
    c.from_residual-in_err-has_ended.ensures.1 in
    rw (answer.1, answer.2) (c.in_err-has_ended.ensures.posts count
    (c.in_ok-client_turn.ensures.posts count (c.loop.invariant.posts count is)))

pub loop-preserved : goal.loop-preserved
loop-preserved g c =
    record {
      failures = c.in_ok-has_ended.ensures.failures;
      posts = λ count is. c.in_ok-has_ended.ensures.posts count
          (c.in_ok-client_turn.ensures.posts count (c.loop.invariant.posts count is));
    }

pub returns-then-is_empty-2-clause-posts : goal.returns-then-is_empty-2-clause-posts
returns-then-is_empty-2-clause-posts g c = λ count is.
    c.in_ok-has_ended.ensures.posts count
    (c.in_ok-client_turn.ensures.posts count (c.loop.invariant.posts count is))
