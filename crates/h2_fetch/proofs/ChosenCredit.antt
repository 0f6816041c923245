-- The credit that is chosen before a read may be returned: it is what was to be returned, or none.
use Rattle.h2_engines.proofs.Names.{◌≡◌, ℕ, true, false, if◌then◌else◌, Bool, Values}
use Rattle.h2_engines.proofs.Names.{End, EndLog, EndRepresents, Log, ConnRepresents}
use Rattle.std.specs.Prelude.{◌||◌, nat_lt}
use Rattle.h2_fetch.specs.Credits.{credit_before, is_due_on}
use Rattle.h2_fetch.specs.Sends.{AllowsCredit, Asking}
use Rattle.h2_engines.specs.declared.sending.Credit.{Credit}
use Rattle.h2_engines.specs.declared.sending.Credit.TheVariants.{Kept}

-- What `credit_before` answers of any log that the connection of an end represents.
abbrev pub ChoosesCredit : End → (id last : ℕ) → (credit chosen : Credit) → Type 0
ChoosesCredit end id last credit chosen =
    (values : Values) (log : Log) → ConnRepresents values end.conn log
    → chosen ≡ credit_before log id last credit

-- A client may always keep credit.
either_allows : (all : Bool) (credit : Credit) (asking : Asking) → AllowsCredit credit asking
    → AllowsCredit (if all then credit else Kept) asking
either_allows true credit asking allows = allows
either_allows false credit asking allows = tt

pub chosen_allows : {old : End} (id last : ℕ) (credit : Credit) {chosen : Credit}
    (asking : Asking) {values : Values} {end : EndLog} → AllowsCredit credit asking
    → ChoosesCredit old id last credit chosen → EndRepresents values old end
    → AllowsCredit chosen asking
chosen_allows id last credit asking {values} {end} allows chooses represents =
    rw (chooses values end.log represents.streams.conn)
    (either_allows (nat_lt last 131072 || is_due_on end.log id) credit asking allows)
