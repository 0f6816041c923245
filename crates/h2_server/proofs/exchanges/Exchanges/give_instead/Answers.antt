use Rattle.h2_server.specs.Exchanges.{handling_of}
use Rattle.h2_server.proofs.StepsMade.{nothing_handles}
use Rattle.h2_server.proofs.exchanges.Exchanges.give_instead.Goals as goal

pub returns-then-not-has_instead : goal.returns-then-not-has_instead
returns-then-not-has_instead g c =
    nothing_handles c.args.server.now.end (handling_of c.args.self.now)
