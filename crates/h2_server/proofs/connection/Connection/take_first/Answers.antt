use Rattle.h2_server.specs.Exchanges.{handling_of}
use Rattle.h2_server.proofs.StepsMade.{nothing_handles}
use Rattle.h2_server.proofs.connection.Connection.take_first.Goals as goal

pub returns-then-self-len-clause-piece : goal.returns-then-self-len-clause-piece
returns-then-self-len-clause-piece g c =
    nothing_handles c.args.self.now.server.end (handling_of c.args.self.now.exchanges)
