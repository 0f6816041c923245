use Rattle.std.proofs.Common.{◌∙◌, refl, sym}
use Rattle.h2_server.specs.Activity.{has_answer_at}
use Rattle.h2_server.proofs.Asked.{none_to_all, none_to_begin, none_to_on}
use Rattle.h2_server.proofs.exchanges.Exchanges.is_answering.Goals as goal

pub loop-id-init : goal.loop-id-init
loop-id-init g c = none_to_begin has_answer_at refl _

pub loop-id-preserved : goal.loop-id-preserved
loop-id-preserved g c =
    none_to_on has_answer_at refl _ c.loop-id.above c.in-Some.id c.loop-id.invariant
    c.in-Some.ensures.next (sym c.has_answer.ensures ∙ c.if-has_answer.false)

pub returns : goal.returns
returns g c =
    none_to_all has_answer_at refl _ c.loop-id.above c.loop-id.invariant c.in_default.ensures.next
