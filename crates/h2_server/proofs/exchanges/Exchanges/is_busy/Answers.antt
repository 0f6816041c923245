use Rattle.std.proofs.Common.{sym, subst}
use Rattle.std.specs.Prelude.{Bool}
use Rattle.h2_server.specs.Activity.{IsBusy}
use Rattle.h2_server.proofs.Asked.{busy_next}
use Rattle.h2_server.proofs.exchanges.Exchanges.is_busy.Goals as goal

pub returns : goal.returns
returns g c =
    subst (λ (b : Bool). IsBusy c.args.self.now.kept.entries b) (sym c.is_some.ensures)
    (busy_next c.args.self.now.kept.entries _ c.next_above.ensures.next)
