-- Each call of `take` uses more of the piece, or the connection fails.
use Rattle.std.proofs.lemmas.Result.{err_from_is_err_and}
use Rattle.h2_events.proofs.TakeLemmas.{used_within, goes_on_after_event, goes_on_inside}
use Rattle.h2_events.proofs.TakeLemmas.{all_taken, fails_in_piece}
use Rattle.h2_events.proofs.replayer.take_piece.Goals as goal

pub returns-in_err-taken-clause-err : goal.returns-in_err-taken-clause-err
returns-in_err-taken-clause-err g c =
    let answer = err_from_is_err_and c.from_residual.result c.from_residual.ensures.1 in
    rw (answer.1, answer.2) (
    fails_in_piece c.args.conn.now c.loop.conn c.take.follows.lender-at-none c.args.piece.now
    c.loop.done c.in_err-taken.field-0.0 _ c.loop.invariant.taken
    (rw c.in_err-taken.was at c.take.follows.holds-at-none) answer.2
    )

pub returns-then-done-piece-clause-ok : goal.returns-then-done-piece-clause-ok
returns-then-done-piece-clause-ok g c =
    all_taken c.args.conn.now c.loop.conn c.take.follows.lender-at-none c.args.piece.now
    c.loop.done c.in_ok-taken.taken
    c.loop.invariant.taken (rw c.in_ok-taken.was at c.take.follows.holds-at-none) c.in_default.is
    c.if-done-piece.true

pub loop-preserved-in_default : goal.loop-preserved-in_default
loop-preserved-in_default g c =
    record {
      within = used_within c.args.piece.now c.loop.done c.in_ok-taken.taken.used
          c.loop.invariant.within c.in_ok-taken.ensures.used;
      taken = goes_on_inside c.args.conn.now c.loop.conn c.take.follows.lender-at-none
          c.args.piece.now c.loop.done c.in_ok-taken.taken c.loop.invariant.within
          c.in_ok-taken.ensures.used
          c.if-done-piece.false c.loop.invariant.taken
          (rw c.in_ok-taken.was at c.take.follows.holds-at-none);
    }

pub loop-preserved : goal.loop-preserved
loop-preserved g c =
    record {
      within = used_within c.args.piece.now c.loop.done c.in_ok-taken.taken.used
          c.loop.invariant.within c.in_ok-taken.ensures.used;
      taken = goes_on_after_event c.args.conn.now c.loop.conn c.take.follows.lender-at-none
          c.args.piece.now c.loop.done c.in_ok-taken.taken c.in-Some.event c.loop.invariant.taken
          (rw c.in_ok-taken.was at c.take.follows.holds-at-none) c.in-Some.is;
    }
