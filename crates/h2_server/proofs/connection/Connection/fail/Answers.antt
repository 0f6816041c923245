use Rattle.std.proofs.Common.{inr, refl}
use Rattle.h2_server.proofs.FailingPhase.{fail_failing}
use Rattle.h2_server.proofs.ConnectionSteps.{own_handles}
use Rattle.h2_server.proofs.connection.Connection.fail.Goals as goal

pub returns-clause-makes : goal.returns-clause-makes
returns-clause-makes g c = own_handles _ _ c.fail.ensures.handles (inr refl)
    (fail_failing _ _ c.args.code c.fail.ensures.failed.0 c.fail.ensures.failed.1)
