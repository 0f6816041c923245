-- Credit is kept, and nothing has happened.
use Rattle.h2_server.specs.Exchanges.{handling_of}
use Rattle.h2_server.proofs.StepsMade.{nothing_handles}
use Rattle.h2_server.proofs.exchanges.Exchanges.return_credit.Goals as goal

pub returns : goal.returns
returns g c =
    nothing_handles c.args.server.now.end (handling_of c.args.self.now)
