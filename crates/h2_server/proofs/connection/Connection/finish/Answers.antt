use Rattle.std.proofs.Common.{inr, refl}
use Rattle.h2_server.proofs.FailingPhase.{over_failing}
use Rattle.h2_server.proofs.ConnectionSteps.{own_handles}
use Rattle.h2_server.proofs.StepsMade.{closed_handles}
use Rattle.h2_server.proofs.connection.Connection.finish.Goals as goal

pub returns-clause-makes : goal.returns-clause-makes
returns-clause-makes g c =
    own_handles _ _ (closed_handles c.end_all.ensures.ends) (inr refl) (over_failing _ _ refl)
