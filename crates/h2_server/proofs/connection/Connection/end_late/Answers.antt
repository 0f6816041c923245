use Rattle.std.proofs.Common.{refl}
use Rattle.h2_server.proofs.ConnectionSteps.{own_same}
use Rattle.h2_server.proofs.connection.Connection.end_late.Goals as goal

pub returns-in-Over-clause-makes : goal.returns-in-Over-clause-makes
returns-in-Over-clause-makes g c = own_same _ _ refl refl refl (λ is. is)

pub returns-else-saturating_sub-self-clause-makes :
    goal.returns-else-saturating_sub-self-clause-makes
returns-else-saturating_sub-self-clause-makes g c = own_same _ _ refl refl refl (λ is. is)
