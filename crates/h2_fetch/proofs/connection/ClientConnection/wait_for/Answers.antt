-- By the lemmas on how the rounds follow one another.
use Rattle.h2_engines.proofs.Names.{refl, ◌∙◌, arith, err_from_is_err_and}
use Rattle.h2_engines.proofs.MachineViews.{not_cut}
use Rattle.h2_fetch.specs.declared.connection.Came.{Came}
use Rattle.h2_fetch.proofs.SeveralWaits.{waits_came, waits_ended, waits_filled, waits_first}
use Rattle.h2_fetch.proofs.SeveralWaits.{waits_no_round, waits_unfilled}
use Rattle.h2_fetch.proofs.connection.ClientConnection.wait_for.Goals as goal

pub loop-init : goal.loop-init
loop-init g c = record {
  failures = refl;
  waits = waits_first _ c.args.self.now c.args.id;
}

pub returns-in-Ok-Some-clause-waits : goal.returns-in-Ok-Some-clause-waits
returns-in-Ok-Some-clause-waits g c =
    waits_came _ _ c.args.self.now c.loop.self _ c.args.id c.loop.counter c.loop.invariant.waits
    c.in-Ok-Some.came (rw c.in-Ok-Some.field-0-is at c.in-Ok-Some.ensures.takes)

pub returns-in_err-refill-in-Ok-None-clause-waits :
    goal.returns-in_err-refill-in-Ok-None-clause-waits
returns-in_err-refill-in-Ok-None-clause-waits g c =
    let answer = err_from_is_err_and c.from_residual.result c.from_residual.ensures.1 in
    rw (answer.1, answer.2) (waits_unfilled _ _ c.args.self.now c.loop.self c.take_next.new.self
    c.args.id c.loop.counter c.loop.invariant.waits _ c.refill.new.self
    c.in_err-refill-in-Ok-None.ensures.kept
    (rw c.in-Ok-None.field-0-is at c.in-Ok-None.ensures.takes)
    c.in_err-refill-in-Ok-None.field-0.0 c.in_err-refill-in-Ok-None.ensures.fills)

pub returns-in-Err-clause-waits : goal.returns-in-Err-clause-waits
returns-in-Err-clause-waits g c =
    waits_ended _ _ c.args.self.now c.loop.self c.take_next.new.self c.args.id c.loop.counter
    c.loop.invariant.waits _ _ c.in-Err.error c.end_early.result refl c.in-Err.ensures.takes
    c.end_early.ensures.ends

pub returns-in-Err-clause-cut_off : goal.returns-in-Err-clause-cut_off
returns-in-Err-clause-cut_off g c = not_cut Came c.end_early.result _ c.end_early.ensures.goes

pub loop-preserved : goal.loop-preserved
loop-preserved g c =
    record {
      failures = c.in_ok-refill-in-Ok-None.ensures.failures ∙ c.loop.invariant.failures;
      waits = waits_filled _ _ c.args.self.now c.loop.self c.take_next.new.self c.args.id
          c.loop.counter c.loop.invariant.waits _ c.refill.new.self
          c.in_ok-refill-in-Ok-None.ensures.kept
          (rw c.in-Ok-None.field-0-is at c.in-Ok-None.ensures.takes) tt
          c.in_ok-refill-in-Ok-None.ensures.fills;
    }

pub returns-clause-waits : goal.returns-clause-waits
returns-clause-waits g c =
    waits_no_round _ _ c.args.self.now c.loop.self c.args.id c.loop.counter (omega arith)
    c.loop.invariant.waits
