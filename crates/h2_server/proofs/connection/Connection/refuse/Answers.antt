use Rattle.std.proofs.Common.{ap}
use Rattle.h2_server.specs.Phases.{is_phase_down, is_phase_over}
use Rattle.h2_server.proofs.ConnectionSteps.{own_then}
use Rattle.h2_server.proofs.connection.Connection.refuse.Goals as goal

pub returns-clause-makes : goal.returns-clause-makes
returns-clause-makes g c =
    own_then _ _ _ c.fail.ensures.makes c.finish.ensures.makes
    (λ is. ap is_phase_over c.finish.ensures.phase) (λ is. ap is_phase_down c.finish.ensures.phase)

pub returns-clause-calm : goal.returns-clause-calm
returns-clause-calm g c = rw c.finish.ensures.server c.fail.ensures.failed
