-- The lines are those of the call.
use Rattle.h2_messages.proofs.CallLemmas.{KnownAt, calls_take}
use Rattle.h2_messages.proofs.taking.take_once.Goals as goal

pub returns-clause-takes : goal.returns-clause-takes
returns-clause-takes g c =
    let known : KnownAt c.hand_out.new.self c.last_malformed.result c.last_flow.result =
    record { malformed = c.last_malformed.ensures; flows = c.last_flow.ensures } in
    rw c.taken.ensures (
    calls_take c.args.end.now c.hand_out.new.self c.args.piece.now c.in_ok-handing.handing _ _ _ _
    c.last_malformed-before.result c.last_malformed.result c.last_flow.result
    c.last_malformed-before.ensures known c.in_ok-handing.ensures.hands
    (rw c.refused_in.ensures at c.in_ok-write_refusal.ensures)
    (rw c.unwritten.ensures at c.in_ok-write_unwritten.ensures)
    )
