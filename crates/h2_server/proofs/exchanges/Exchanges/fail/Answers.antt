use Rattle.h2_server.specs.Exchanges.{handling_of}
use Rattle.h2_server.proofs.StepsMade.{called_handles, closed_handles, then_handles}
use Rattle.h2_server.proofs.exchanges.Exchanges.fail.Goals as goal

pub returns-clause-handles : goal.returns-clause-handles
returns-clause-handles g c =
    then_handles (called_handles (handling_of c.args.self.now) tt
    c.fail.ensures) (closed_handles c.end_all.ensures.ends)
