use Rattle.h2_server.specs.Exchanges.{handling_of}
use Rattle.h2_server.proofs.StepsMade.{nothing_handles, then_handles}
use Rattle.h2_server.proofs.exchanges.Exchanges.ask.Goals as goal

pub returns-in_default-clause-handles : goal.returns-in_default-clause-handles
returns-in_default-clause-handles g c =
    nothing_handles c.args.server.now.end (handling_of c.args.self.now)

pub returns-clause-handles : goal.returns-clause-handles
returns-clause-handles g c = then_handles c.ask_on.ensures.handles c.answer.ensures

pub returns-then-is_empty-clause-handles : goal.returns-then-is_empty-clause-handles
returns-then-is_empty-clause-handles g c =
    nothing_handles c.args.server.now.end (handling_of c.args.self.now)
