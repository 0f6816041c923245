use Rattle.h2_server.specs.Exchanges.{handling_of}
use Rattle.h2_server.proofs.StepsMade.{nothing_handles, then_handles}
use Rattle.h2_server.proofs.exchanges.Exchanges.stop_reading.Goals as goal

pub returns-then-not-may_stop_reading : goal.returns-then-not-may_stop_reading
returns-then-not-may_stop_reading g c =
    nothing_handles c.args.server.now.end (handling_of c.args.self.now)

pub returns : goal.returns
returns g c = then_handles c.ask_to_stop.ensures c.give_next.ensures
