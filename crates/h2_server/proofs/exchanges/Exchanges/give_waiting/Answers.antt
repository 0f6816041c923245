use Rattle.h2_server.specs.Exchanges.{handling_of}
use Rattle.h2_server.proofs.StepsMade.{nothing_handles, then_handles}
use Rattle.h2_server.proofs.exchanges.Exchanges.give_waiting.Goals as goal

pub loop-id-init : goal.loop-id-init
loop-id-init g c =
    nothing_handles c.args.server.now.end (handling_of c.args.self.now)

pub loop-id-preserved-in-Continue-1 : goal.loop-id-preserved-in-Continue-1
loop-id-preserved-in-Continue-1 g c = then_handles c.loop-id.invariant c.answer.ensures

pub returns-in_err-answer : goal.returns-in_err-answer
returns-in_err-answer g c = then_handles c.loop-id.invariant c.answer.ensures
