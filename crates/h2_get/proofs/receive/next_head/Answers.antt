-- By the lemmas on how parts are passed on.
use Rattle.std.proofs.Common.{refl, sym, ◌∙◌, arith}
use Rattle.std.proofs.lemmas.Result.{err_from_is_err_and}
use Rattle.h2_get.specs.Receives.{HasNoHead}
use Rattle.h2_get.proofs.Receiving.{follows_no_head, head_comes, head_stops, no_head_first}
use Rattle.h2_get.proofs.Receiving.{no_round_left, passes_first, passes_one, stops_after}
use Rattle.h2_get.proofs.receive.next_head.Goals as goal

pub loop-init : goal.loop-init
loop-init g c =
    record {
      failures = refl;
      stream = refl;
      passes = passes_first HasNoHead _ c.args.fetch.now no_head_first;
    }

pub returns-in_err-part-clause-head : goal.returns-in_err-part-clause-head
returns-in_err-part-clause-head g c =
    let answer = err_from_is_err_and c.from_residual.result c.from_residual.ensures.1 in
    rw (answer.1, answer.2) (head_stops _ _ c.args.fetch.now _ _
    (stops_after HasNoHead _ _ _ c.args.fetch.now c.loop.fetch _ c.loop.counter
    c.loop.invariant.passes c.in_err-part.ensures.stream _ c.in_err-part.ensures.next))

pub returns-in-Some-clause-head : goal.returns-in-Some-clause-head
returns-in-Some-clause-head g c =
    head_comes _ _ _ c.args.fetch.now c.loop.fetch _ c.loop.counter c.loop.invariant.passes
    c.in_ok-part.ensures.stream c.in_ok-part.part c.in-Some.head (sym c.in-Some.ensures)
    c.in_ok-part.ensures.next

pub loop-preserved : goal.loop-preserved
loop-preserved g c =
    record {
      failures = c.in_ok-part.ensures.failures ∙ c.loop.invariant.failures;
      stream = c.in_ok-part.ensures.stream ∙ c.loop.invariant.stream;
      passes = passes_one HasNoHead _ _ _ c.args.fetch.now c.loop.fetch _ c.loop.counter
          c.loop.invariant.passes c.in_ok-part.ensures.stream HasNoHead c.in_ok-part.part
          (follows_no_head _ c.in_ok-part.part (sym c.in_default.ensures))
          c.in_ok-part.ensures.next;
    }

pub returns-clause-head : goal.returns-clause-head
returns-clause-head g c =
    head_stops _ _ c.args.fetch.now _ _
    (no_round_left HasNoHead _ _ c.args.fetch.now c.loop.fetch c.loop.counter (omega arith)
    c.loop.invariant.passes)
