-- Each call uses more of the piece, or hands something out, or the connection fails.
use Rattle.std.proofs.Common.{inl, inr}
use Rattle.std.proofs.lemmas.Bool.{not-true, not-false}
use Rattle.h2_events.proofs.TakeLemmas.{used_within}
use Rattle.h2_messages.proofs.TakeLemmas.{takes_more, takes_all, error_reported}
use Rattle.h2_messages.proofs.taking.take_piece.Goals as goal
use Rattle.h2_messages.proofs.taking.take_piece.Goals.{else-not-taken-via-else-not-taken}
use Rattle.h2_messages.proofs.taking.take_piece.Goals.{else-not-taken-via-then-not-taken+else-done-piece}

pub returns-in_err-taken-clause-err : goal.returns-in_err-taken-clause-err
returns-in_err-taken-clause-err g c =
    error_reported c.args.end.now c.loop.end c.take_once.new.end c.args.piece.now c.loop.done
    c.in_err-taken.field-0.0 c.from_residual.result _ _ _ c.from_residual.ensures.1
    c.loop.invariant.taken c.in_err-taken.ensures.takes

pub returns-then-done-piece-clause-ok : goal.returns-then-done-piece-clause-ok
returns-then-done-piece-clause-ok g c =
    takes_all c.args.end.now c.loop.end c.take_once.new.end c.args.piece.now c.loop.done
    c.in_ok-taken.taken _ _ _ c.loop.invariant.within (not-true _ c.if-not-taken.true)
    c.if-done-piece.true c.loop.invariant.taken c.in_ok-taken.ensures.takes

pub loop-preserved : goal.loop-preserved
loop-preserved g c =
    record {
      within = used_within c.args.piece.now c.loop.done c.in_ok-taken.taken.used
          c.loop.invariant.within c.in_ok-taken.ensures.within;
      taken = takes_more c.args.end.now c.loop.end c.take_once.new.end c.args.piece.now c.loop.done
          c.in_ok-taken.taken _ _ _ c.loop.invariant.within c.in_ok-taken.ensures.within
          (elim c.else-not-taken.branch [
            | else-not-taken-via-then-not-taken+else-done-piece w ↦ inr w.if-done-piece.false
            | else-not-taken-via-else-not-taken w ↦ inl (not-false _ w.if-not-taken.false)
          ]) c.loop.invariant.taken c.in_ok-taken.ensures.takes;
    }
