use Rattle.std.proofs.Common.{◌∙◌, ap, inl, inr, refl}
use Rattle.h2_server.specs.Exchanges.{exchange_at}
use Rattle.h2_server.specs.declared.exchanges.Exchanges.{Exchanges}
use Rattle.h2_server.proofs.FailingPhase.{same_failing}
use Rattle.h2_server.proofs.ConnectionSteps.{handles_then}
use Rattle.h2_server.proofs.connection.Connection.pass.Goals as goal

pub returns-clause-makes : goal.returns-clause-makes
returns-clause-makes g c =
    handles_then _ _ _ (c.ask_again.ensures.handles c.args.self.now.server.end) refl
    (same_failing _ _ (λ down. refl) refl)
    c.end_late.ensures.makes

pub returns-clause-asks : goal.returns-clause-asks
returns-clause-asks g c = elim c.end_late.ensures.kept [
  | inl down ↦ inl down
  | inr same ↦
      inr (λ id other. ap (λ (e : Exchanges _ _). exchange_at id e.kept.entries) same
      ∙ c.ask_again.ensures.all id other)
]
