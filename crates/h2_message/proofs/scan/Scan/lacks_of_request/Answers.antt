use Rattle.h2_message.proofs.Names.{◌≡◌, Bool, not, ◌||◌, sym, ap, ◌∙◌, is_some}
use Rattle.h2_message.proofs.ScanNames.{or-then, or-else}
use Rattle.h2_message.proofs.VerdictRules.{lacks-request}
use Rattle.hpack.proofs.Tests.{not_back as none-is}
use Rattle.h2_message.proofs.scan.Scan.lacks_of_request.Goals as goal
use Rattle.h2_message.proofs.scan.Scan.lacks_of_request.Goals.{then-is_none, else-is_none}

pub returns-then-not-self : goal.returns-then-not-self
returns-then-not-self c fields seen =
    let scan = c.args.self.now in
    let two : c.if-is_none.value ≡ (not (is_some scan.method) || not scan.scheme) =
    elim c.if-is_none.branch [
      | then-is_none w ↦ or-then _ _ _ (sym (none-is _ _ c.is_none.ensures) ∙ w.if-is_none.true)
          (w.value-is ∙ w.if-is_none.true)
      | else-is_none w ↦ or-else _ _ _ (sym (none-is _ _ c.is_none.ensures) ∙ w.if-is_none.false)
          w.value-is
    ] in
    or-then _ (not (is_some scan.path)) _ c.if-not-self.true c.if-not-self.true
    ∙ (ap (λ (b : Bool). b || not (is_some scan.path)) two ∙ lacks-request fields scan seen)

pub returns-else-not-self : goal.returns-else-not-self
returns-else-not-self c fields seen =
    let scan = c.args.self.now in
    let two : c.if-is_none.value ≡ (not (is_some scan.method) || not scan.scheme) =
    elim c.if-is_none.branch [
      | then-is_none w ↦ or-then _ _ _ (sym (none-is _ _ c.is_none.ensures) ∙ w.if-is_none.true)
          (w.value-is ∙ w.if-is_none.true)
      | else-is_none w ↦ or-else _ _ _ (sym (none-is _ _ c.is_none.ensures) ∙ w.if-is_none.false)
          w.value-is
    ] in
    or-else _ _ _ c.if-not-self.false (none-is _ _ c.is_none-else-not-self.ensures)
    ∙ (ap (λ (b : Bool). b || not (is_some scan.path)) two ∙ lacks-request fields scan seen)
