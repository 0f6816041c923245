-- By the lemmas on how parts come one after another.
use Rattle.std.proofs.Common.{refl, sym, ◌∙◌, arith}
use Rattle.std.proofs.lemmas.Result.{err_from_is_err_and}
use Rattle.h2_get.specs.Receives.{HasNoHead, HeadCame}
use Rattle.h2_get.proofs.Receiving.{follows_no_head, no_head_first}
use Rattle.h2_get.proofs.SeveralParts.{head_came, head_comes_on, head_stops_on, no_part_left}
use Rattle.h2_get.proofs.SeveralParts.{parts_first, parts_one, parts_stop}
use Rattle.h2_get.proofs.several.head_on.Goals as goal

pub loop-init : goal.loop-init
loop-init g c =
    record {
      failures = refl;
      parts = parts_first HasNoHead _ c.args.fetch.now c.args.id no_head_first;
    }

pub returns-in_err-part-clause-head : goal.returns-in_err-part-clause-head
returns-in_err-part-clause-head g c =
    let answer = err_from_is_err_and c.from_residual.result c.from_residual.ensures.1 in
    rw (answer.1, answer.2) (head_stops_on _ _ c.args.fetch.now _ _ _
    (parts_stop HasNoHead _ _ _ c.args.fetch.now c.loop.fetch _ c.args.id c.loop.counter
    c.loop.invariant.parts _ c.in_err-part.ensures.part))

pub returns-in-Some-clause-head : goal.returns-in-Some-clause-head
returns-in-Some-clause-head g c =
    head_comes_on _ _ c.args.fetch.now _ c.args.id _ c.in-Some.head
    (parts_one HasNoHead _ _ _ c.args.fetch.now c.loop.fetch _ c.args.id c.loop.counter
    c.loop.invariant.parts (λ came. HeadCame c.args.id came c.in-Some.head)
    c.in_ok-part.part
    (head_came c.args.id c.in_ok-part.part c.in-Some.head (sym c.in-Some.ensures))
    c.in_ok-part.ensures.part)

pub loop-preserved : goal.loop-preserved
loop-preserved g c =
    record {
      failures = c.in_ok-part.ensures.failures ∙ c.loop.invariant.failures;
      parts = parts_one HasNoHead _ _ _ c.args.fetch.now c.loop.fetch _ c.args.id c.loop.counter
          c.loop.invariant.parts HasNoHead c.in_ok-part.part
          (follows_no_head _ c.in_ok-part.part (sym c.in_default.ensures))
          c.in_ok-part.ensures.part;
    }

pub returns-clause-head : goal.returns-clause-head
returns-clause-head g c =
    head_stops_on _ _ c.args.fetch.now _ _ _
    (no_part_left HasNoHead _ _ c.args.fetch.now c.loop.fetch c.args.id c.loop.counter
    (omega arith) c.loop.invariant.parts)
