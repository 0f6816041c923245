-- By the lemmas on how the rounds follow one another.
use Rattle.h2_engines.proofs.Names.{refl, ◌∙◌, arith, err_from_is_err_and}
use Rattle.h2_engines.proofs.MachineViews.{not_cut}
use Rattle.h2_fetch.specs.declared.part.ResponsePart.{ResponsePart}
use Rattle.h2_fetch.proofs.Refilling.{next_ended, next_first, next_no_round, next_part}
use Rattle.h2_fetch.proofs.Refilling.{next_refilled, next_unfilled}
use Rattle.h2_fetch.proofs.fetch.PartFetch.next.Goals as goal

pub loop-init : goal.loop-init
loop-init g c = record { failures = refl; stream = refl; next = next_first _ c.args.self.now }

pub returns-in-Ok-Some-clause-next : goal.returns-in-Ok-Some-clause-next
returns-in-Ok-Some-clause-next g c =
    next_part _ _ c.args.self.now c.loop.self _ c.loop.counter c.loop.invariant.next
    c.loop.invariant.stream c.in-Ok-Some.ensures.stream c.in-Ok-Some.part
    (rw c.in-Ok-Some.field-0-is at c.in-Ok-Some.ensures.takes)

pub returns-in_err-refill-in-Ok-None-clause-next : goal.returns-in_err-refill-in-Ok-None-clause-next
returns-in_err-refill-in-Ok-None-clause-next g c =
    let answer = err_from_is_err_and c.from_residual.result c.from_residual.ensures.1 in
    rw (answer.1, answer.2) (next_unfilled _ _ c.args.self.now c.loop.self c.take_next.new.self
    c.loop.counter c.loop.invariant.next c.loop.invariant.stream c.in-Ok-None.ensures.stream _
    c.refill.new.self c.in_err-refill-in-Ok-None.ensures.stream
    (rw c.in-Ok-None.field-0-is at c.in-Ok-None.ensures.takes)
    c.in_err-refill-in-Ok-None.field-0.0 c.in_err-refill-in-Ok-None.ensures.refills)

pub returns-in-Err-clause-next : goal.returns-in-Err-clause-next
returns-in-Err-clause-next g c =
    next_ended _ _ c.args.self.now c.loop.self c.take_next.new.self c.loop.counter
    c.loop.invariant.next c.loop.invariant.stream c.in-Err.ensures.stream _ c.end_early.new.self
    c.in-Err.error c.end_early.result c.end_early.ensures.stream c.in-Err.ensures.takes
    c.end_early.ensures.ends

pub returns-in-Err-clause-cut_off : goal.returns-in-Err-clause-cut_off
returns-in-Err-clause-cut_off g c =
    not_cut ResponsePart c.end_early.result _ c.end_early.ensures.goes

pub loop-preserved : goal.loop-preserved
loop-preserved g c =
    record {
      failures = c.in_ok-refill-in-Ok-None.ensures.failures ∙ c.loop.invariant.failures;
      stream = c.in_ok-refill-in-Ok-None.ensures.stream ∙ c.in-Ok-None.ensures.stream
          ∙ c.loop.invariant.stream;
      next = next_refilled _ _ c.args.self.now c.loop.self c.take_next.new.self c.loop.counter
          c.loop.invariant.next c.loop.invariant.stream c.in-Ok-None.ensures.stream _
          c.refill.new.self c.in_ok-refill-in-Ok-None.ensures.stream
          (rw c.in-Ok-None.field-0-is at c.in-Ok-None.ensures.takes) tt
          c.in_ok-refill-in-Ok-None.ensures.refills;
    }

pub returns-clause-next : goal.returns-clause-next
returns-clause-next g c =
    next_no_round _ _ c.args.self.now c.loop.self c.loop.counter (omega arith)
    c.loop.invariant.next
