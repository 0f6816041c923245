-- By the lemmas on a whole pass.
use Rattle.h2_ends.proofs.Names.{refl, err_from_is_err_and, ap, Ok}
use Rattle.h2_ends.proofs.PassEnds.{some_closed, halts_above, stops_above, halts_below}
use Rattle.h2_ends.proofs.PassEnds.{stops_below, pass_round}
use Rattle.h2_ends.proofs.end.End.pump_some.Goals.{else-branch-via-else-branch}
use Rattle.h2_ends.proofs.end.End.pump_some.Goals.{else-branch-via-then-branch+in_ok-pass_over-2+else-branch-2}
use Rattle.h2_ends.proofs.end.End.pump_some.Goals as goal

pub returns-then-is_some : goal.returns-then-is_some
returns-then-is_some c =
    some_closed c.args.self.now c.args.most c.failed.result c.failed.ensures c.if-is_some.ensures

pub returns-in_err-pass_over : goal.returns-in_err-pass_over
returns-in_err-pass_over c =
    let made = err_from_is_err_and c.from_residual.result c.from_residual.ensures.1 in
    rw (made.1, made.2) (stops_above c.args.self.now c.args.most c.args.self.now.spans.turn.id refl
    c.split.result.0 c.split.result.1
    c.split.ensures.highest c.split.ensures.above c.split.ensures.below _
    (rw c.min.ensures at c.max.ensures) refl refl
    c.pass_over.new.self
    c.pass_over.new.pass c.failed.result c.failed.ensures c.if-is_some.ensures _
    c.in_err-pass_over.ensures)

pub returns-in_err-pass_over-2 : goal.returns-in_err-pass_over-2
returns-in_err-pass_over-2 c =
    let made = err_from_is_err_and c.from_residual-in_err-pass_over-2.result
    c.from_residual-in_err-pass_over-2.ensures.1 in
    rw (made.1, made.2) (stops_below c.args.self.now c.args.most c.args.self.now.spans.turn.id refl
    c.split.result.0 c.split.result.1
    c.split.ensures.highest c.split.ensures.above c.split.ensures.below _
    (rw c.min.ensures at c.max.ensures) refl refl
    c.pass_over.new.self
    c.pass_over.new.pass c.failed.result c.failed.ensures c.if-is_some.ensures
    (rw c.if-branch.true at c.in_ok-pass_over.ensures) c.pass_over-then-branch.new.self
    c.pass_over-then-branch.new.pass _ c.in_err-pass_over-2.ensures)

pub returns-then-branch-2 : goal.returns-then-branch-2
returns-then-branch-2 c =
    pass_round c.args.self.now c.args.most c.args.self.now.spans.turn.id refl c.split.result.0
    c.split.result.1
    c.split.ensures.highest c.split.ensures.above c.split.ensures.below _
    (rw c.min.ensures at c.max.ensures) refl refl
    c.pass_over.new.self
    c.pass_over.new.pass c.failed.result c.failed.ensures c.if-is_some.ensures
    (rw c.if-branch.true at c.in_ok-pass_over.ensures) c.pass_over-then-branch.new.self
    c.pass_over-then-branch.new.pass (rw c.if-branch-2.true at c.in_ok-pass_over-2.ensures)

pub returns-else-branch : goal.returns-else-branch
returns-else-branch c =
    elim c.else-branch.branch [
      | else-branch-via-then-branch+in_ok-pass_over-2+else-branch-2 w ↦
          rw (w.self-is, w.pass-is) (halts_below c.args.self.now c.args.most
          c.args.self.now.spans.turn.id refl c.split.result.0 c.split.result.1
          c.split.ensures.highest c.split.ensures.above c.split.ensures.below _
          (rw c.min.ensures at c.max.ensures) refl
          refl c.pass_over.new.self
          c.pass_over.new.pass c.failed.result c.failed.ensures c.if-is_some.ensures
          (rw w.if-branch.true at c.in_ok-pass_over.ensures) w.pass_over-then-branch.new.self
          w.pass_over-then-branch.new.pass _ (ap Ok w.if-branch-2.false)
          w.in_ok-pass_over-2.ensures)
      | else-branch-via-else-branch w ↦
          rw (w.self-is, w.pass-is) (halts_above c.args.self.now c.args.most
          c.args.self.now.spans.turn.id refl c.split.result.0 c.split.result.1
          c.split.ensures.highest c.split.ensures.above c.split.ensures.below _
          (rw c.min.ensures at c.max.ensures) refl
          refl c.pass_over.new.self
          c.pass_over.new.pass c.failed.result c.failed.ensures c.if-is_some.ensures _
          (ap Ok w.if-branch.false) c.in_ok-pass_over.ensures)
    ]
