use Rattle.std.proofs.Common.{◌∙◌, arith, sym}
use Rattle.h2_server.proofs.Asked.{none_can_ask_on}
use Rattle.h2_server.proofs.exchanges.Exchanges.next_asked_above.Goals as goal

pub loop-id-preserved : goal.loop-id-preserved
loop-id-preserved g c =
    λ values log is. none_can_ask_on log _ _ c.loop-id.above c.in-Some.id
    (c.loop-id.invariant values log is) c.in-Some.ensures.next
    (sym (c.room_to_ask-room.ensures.asked values log is) ∙ omega (arith, c.if-room-gt0.false))
