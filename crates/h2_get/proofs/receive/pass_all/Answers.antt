-- By the lemmas on how parts are passed on.
use Rattle.std.proofs.Common.{refl, ◌∙◌, arith}
use Rattle.std.proofs.lemmas.Result.{err_from_is_err_and}
use Rattle.h2_get.proofs.Receiving.{Written, no_round_left, passed_first, passed_stops}
use Rattle.h2_get.proofs.Receiving.{passed_whole, passes_first, passes_one, stops_after}
use Rattle.h2_get.proofs.Receiving.{writes_none}
use Rattle.h2_get.proofs.Receiving.{writes_one}
use Rattle.h2_get.proofs.receive.pass_all.Goals as goal

pub loop-init : goal.loop-init
loop-init g c =
    record {
      failures = refl;
      stream = refl;
      passes = passes_first _ _ c.args.fetch.now (writes_none _);
    }

pub returns-in_err-part-clause-passes : goal.returns-in_err-part-clause-passes
returns-in_err-part-clause-passes g c =
    let answer = err_from_is_err_and c.from_residual.result c.from_residual.ensures.1 in
    rw (answer.1, answer.2) (passed_stops _ _ c.args.fetch.now _ _ _ _
    (stops_after (Written _ _) _ _ _ c.args.fetch.now c.loop.fetch _ c.loop.counter
    c.loop.invariant.passes c.in_err-part.ensures.stream _ c.in_err-part.ensures.next))

pub returns-in_err-trailers-clause-passes : goal.returns-in_err-trailers-clause-passes
returns-in_err-trailers-clause-passes g c =
    let answer = err_from_is_err_and c.from_residual-in_err-trailers.result
    c.from_residual-in_err-trailers.ensures.1 in
    rw (answer.1, answer.2) (passed_first _ _ _ c.args.fetch.now c.loop.fetch _ c.loop.counter _ _ _
    c.loop.invariant.passes c.in_ok-part.ensures.stream c.in_ok-part.part
    c.in_ok-part.ensures.next _ c.in_err-trailers.ensures)

pub returns-in-Whole-clause-passes : goal.returns-in-Whole-clause-passes
returns-in-Whole-clause-passes g c =
    passed_whole _ _ _ c.args.fetch.now c.loop.fetch _ c.loop.counter _ _ _
    c.loop.invariant.passes c.in_ok-part.ensures.stream c.in_ok-part.part
    c.in_ok-part.ensures.next c.in-Whole.trailers (rw c.in-Whole.is at c.in_ok-trailers.ensures)

pub loop-preserved : goal.loop-preserved
loop-preserved g c =
    record {
      failures = c.in_ok-part.ensures.failures ∙ c.loop.invariant.failures;
      stream = c.in_ok-part.ensures.stream ∙ c.loop.invariant.stream;
      passes = passes_one (Written _ _) _ _ _ c.args.fetch.now c.loop.fetch _ c.loop.counter
          c.loop.invariant.passes c.in_ok-part.ensures.stream (Written _ _) c.in_ok-part.part
          (writes_one _ _ _ _ c.in_ok-part.part (rw c.in-GoesOn.is at c.in_ok-trailers.ensures))
          c.in_ok-part.ensures.next;
    }

pub returns-clause-passes : goal.returns-clause-passes
returns-clause-passes g c =
    passed_stops _ _ c.args.fetch.now _ _ _ _
    (no_round_left (Written _ _) _ _ c.args.fetch.now c.loop.fetch c.loop.counter (omega arith)
    c.loop.invariant.passes)
