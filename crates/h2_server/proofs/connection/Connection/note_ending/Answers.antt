use Rattle.std.proofs.Common.{refl}
use Rattle.h2_server.proofs.ConnectionSteps.{own_same}
use Rattle.h2_server.proofs.connection.Connection.note_ending.Goals as goal

pub returns-in-None-clause-makes : goal.returns-in-None-clause-makes
returns-in-None-clause-makes g c = own_same _ _ refl refl refl (λ is. absurd (cc))
