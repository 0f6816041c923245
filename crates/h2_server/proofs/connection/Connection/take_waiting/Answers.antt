use Rattle.std.proofs.Common.{[], refl}
use Rattle.h2_server.specs.Exchanges.{handling_of}
use Rattle.h2_server.proofs.StepsMade.{nothing_handles}
use Rattle.h2_server.proofs.connection.Connection.take_waiting.Goals as goal

pub returns-clause-takes : goal.returns-clause-takes
returns-clause-takes g c = (
  [],
  nothing_handles c.args.self.now.server.end (handling_of c.args.self.now.exchanges),
  refl,
)
