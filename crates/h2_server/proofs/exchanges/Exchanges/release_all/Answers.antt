use Rattle.h2_server.specs.Exchanges.{handling_of}
use Rattle.h2_server.proofs.CreditSteps.{all_returned_on}
use Rattle.h2_server.proofs.StepsMade.{released_handles}
use Rattle.h2_server.proofs.exchanges.Exchanges.release_all.Goals as goal

pub returns-clause-handles : goal.returns-clause-handles
returns-clause-handles g c =
    released_handles _ (handling_of c.args.self.now) c.release_all-released.ensures

pub returns-clause-returned : goal.returns-clause-returned
returns-clause-returned g c =
    all_returned_on _ (handling_of c.args.self.now) c.release_all-released.result
    c.unless_end_full.result c.release_all-released.ensures c.unless_end_full.ensures
