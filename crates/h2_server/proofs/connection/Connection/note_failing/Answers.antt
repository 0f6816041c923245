use Rattle.std.proofs.Common.{refl}
use Rattle.h2_server.proofs.ConnectionSteps.{own_same}
use Rattle.h2_server.proofs.connection.Connection.note_failing.Goals as goal

pub returns-clause-makes : goal.returns-clause-makes
returns-clause-makes g c = own_same _ _ refl refl refl (λ is. c.requires)
