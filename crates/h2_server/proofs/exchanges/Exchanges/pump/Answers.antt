use Rattle.h2_server.specs.Exchanges.{handling_of}
use Rattle.h2_server.proofs.StepsMade.{nothing_handles, pumped_handles}
use Rattle.h2_server.proofs.exchanges.Exchanges.pump.Goals as goal

pub returns-then-not-self : goal.returns-then-not-self
returns-then-not-self g c =
    nothing_handles c.args.server.now.end (handling_of c.args.self.now)

pub returns-after-count-gt0 : goal.returns-after-count-gt0
returns-after-count-gt0 g c =
    pumped_handles _ _ (handling_of c.args.self.now) c.pump_some.ensures

pub returns-in-Err : goal.returns-in-Err
returns-in-Err g c =
    pumped_handles _ _ (handling_of c.args.self.now) c.pump_some.ensures
