use Rattle.std.proofs.Common.{inl, refl}
use Rattle.h2_server.proofs.FailingPhase.{same_failing}
use Rattle.h2_server.proofs.ConnectionSteps.{own_handles}
use Rattle.h2_server.proofs.connection.Connection.wake.Goals as goal

pub returns-clause-makes : goal.returns-clause-makes
returns-clause-makes g c =
    own_handles _ _ (c.ask_again.ensures.handles c.args.self.now.server.end) (inl refl)
    (same_failing _ _ (λ down. refl) refl)

pub returns-clause-asks : goal.returns-clause-asks
returns-clause-asks g c = c.ask_again.ensures.all
