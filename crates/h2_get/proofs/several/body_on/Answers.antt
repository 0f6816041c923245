-- By the lemmas on how parts come one after another.
use Rattle.std.proofs.Common.{refl, ◌∙◌, arith}
use Rattle.std.proofs.lemmas.Result.{err_from_is_err_and}
use Rattle.h2_get.proofs.Receiving.{Written, writes_none, writes_one}
use Rattle.h2_get.proofs.SeveralParts.{EndsWritten, WritesFirst, body_first_on, body_stops_on}
use Rattle.h2_get.proofs.SeveralParts.{body_whole_on, ends_written, no_part_left, parts_first}
use Rattle.h2_get.proofs.SeveralParts.{parts_one, parts_stop, writes_first}
use Rattle.h2_get.proofs.several.body_on.Goals as goal

pub loop-init : goal.loop-init
loop-init g c =
    record {
      failures = refl;
      parts = parts_first (Written _ _) _ c.args.fetch.now c.args.id (writes_none _);
    }

pub returns-in_err-part-clause-passes : goal.returns-in_err-part-clause-passes
returns-in_err-part-clause-passes g c =
    let answer = err_from_is_err_and c.from_residual.result c.from_residual.ensures.1 in
    rw (answer.1, answer.2) (body_stops_on _ _ c.args.fetch.now _ _ _ _ _
    (parts_stop (Written _ _) _ _ _ c.args.fetch.now c.loop.fetch _ c.args.id c.loop.counter
    c.loop.invariant.parts _ c.in_err-part.ensures.part))

pub returns-in_err-trailers-clause-passes : goal.returns-in_err-trailers-clause-passes
returns-in_err-trailers-clause-passes g c =
    let answer = err_from_is_err_and c.from_residual-in_err-trailers.result
    c.from_residual-in_err-trailers.ensures.1 in
    rw (answer.1, answer.2, c.in_err-trailers.ensures.0) (body_first_on _ _ c.args.fetch.now _
    c.args.id _ _ _ (parts_one (Written _ _) _ _ _ c.args.fetch.now c.loop.fetch _ c.args.id
    c.loop.counter c.loop.invariant.parts (WritesFirst _ _) c.in_ok-part.part
    (writes_first c.args.id _ _ _ c.in_ok-part.part _ c.in_err-trailers.ensures)
    c.in_ok-part.ensures.part))

pub returns-in-Whole-clause-passes : goal.returns-in-Whole-clause-passes
returns-in-Whole-clause-passes g c =
    body_whole_on _ _ c.args.fetch.now _ c.args.id _ _ _ c.in-Whole.trailers
    (parts_one (Written _ _) _ _ _ c.args.fetch.now c.loop.fetch _ c.args.id c.loop.counter
    c.loop.invariant.parts (EndsWritten c.args.id _ _ c.in-Whole.trailers)
    c.in_ok-part.part
    (ends_written c.args.id _ _ _ c.in_ok-part.part c.in-Whole.trailers
    (rw c.in-Whole.is at c.in_ok-trailers.ensures)) c.in_ok-part.ensures.part)

pub loop-preserved : goal.loop-preserved
loop-preserved g c =
    record {
      failures = c.in_ok-part.ensures.failures ∙ c.loop.invariant.failures;
      parts = parts_one (Written _ _) _ _ _ c.args.fetch.now c.loop.fetch _ c.args.id
          c.loop.counter c.loop.invariant.parts (Written _ _)
          c.in_ok-part.part
          (writes_one _ _ _ _ c.in_ok-part.part (rw c.in-GoesOn.is at c.in_ok-trailers.ensures))
          c.in_ok-part.ensures.part;
    }

pub returns-clause-passes : goal.returns-clause-passes
returns-clause-passes g c =
    body_stops_on _ _ c.args.fetch.now _ _ _ _ _
    (no_part_left (Written _ _) _ _ c.args.fetch.now c.loop.fetch c.args.id c.loop.counter
    (omega arith) c.loop.invariant.parts)
