use Rattle.std.proofs.Common.{◌∙◌, refl, sym}
use Rattle.h2_server.specs.Deferring.{is_pending_at}
use Rattle.h2_server.proofs.Asked.{none_to_all, none_to_begin, none_to_on}
use Rattle.h2_server.proofs.exchanges.Exchanges.is_pending.Goals as goal

pub loop-id-init : goal.loop-id-init
loop-id-init g c = none_to_begin is_pending_at refl _

pub loop-id-preserved : goal.loop-id-preserved
loop-id-preserved g c =
    none_to_on is_pending_at refl _ c.loop-id.above c.in-Some.id c.loop-id.invariant
    c.in-Some.ensures.next (sym c.is_pending_on.ensures ∙ c.if-is_pending_on.false)

pub returns : goal.returns
returns g c =
    none_to_all is_pending_at refl _ c.loop-id.above c.loop-id.invariant c.in_default.ensures.next
