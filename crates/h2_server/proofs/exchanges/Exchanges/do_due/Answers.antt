use Rattle.h2_server.specs.Exchanges.{handling_of}
use Rattle.h2_server.proofs.StepsMade.{nothing_handles}
use Rattle.h2_server.proofs.exchanges.Exchanges.do_due.Goals as goal

pub returns-in_default-clause-handles : goal.returns-in_default-clause-handles
returns-in_default-clause-handles g c =
    nothing_handles c.args.server.now.end (handling_of c.args.self.now)
