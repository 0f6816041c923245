use Rattle.h2_server.specs.Exchanges.{handling_of}
use Rattle.h2_server.proofs.StepsMade.{nothing_handles, then_handles}
use Rattle.h2_server.proofs.exchanges.Exchanges.settle.Goals as goal

pub loop-id-init : goal.loop-id-init
loop-id-init g c =
    nothing_handles c.args.server.now.end (handling_of c.args.self.now)

pub loop-id-preserved : goal.loop-id-preserved
loop-id-preserved g c =
    rw c.note_rest.ensures.same
    (then_handles (then_handles c.loop-id.invariant c.stop_reading.ensures) c.end_if_over.ensures)

pub returns-in_err-stop_reading : goal.returns-in_err-stop_reading
returns-in_err-stop_reading g c = then_handles c.loop-id.invariant c.stop_reading.ensures
