-- What a step makes of a connection that ends in order once its host is asked to end.
use Rattle.std.specs.Prelude.{◌≡◌, ◌≢◌, ◌⊎◌, ◌-◌, ◌<◌, ℕ, List, Bool, true, false}
use Rattle.std.specs.Prelude.{is_some}
use Rattle.h2_host.specs.declared.party.Answer.{Answer}
use Rattle.h2_host.specs.declared.party.Own.{Own}
use Rattle.h2_host.specs.declared.party.Own.TheVariants.{Came, Passed}
use Rattle.h2_hosting.specs.declared.guest.Guest.{Guest}

-- what a connection lacks of the window of its host: that, but for the 65,535 octets that each has
-- (RFC 9113, section 6.9.2)
abbrev pub lacking_of : (window : ℕ) → ℕ
lacking_of window = window - 65535

-- After octets of a body have come of which more is to come, a connection that was not widened before
-- is widened by what it lacks of this window, if that is anything and as much was left for it; if
-- the connection refuses the call, it may be widened later. After another step nothing is done, nor
-- once it was widened.
-- rule: hosts (own) A connection is widened once, as a body comes, by what is left
pub data WidensAfter {P : Type 0} (receives : P → Bool → Type 0)
    (widens : P → ℕ → Bool → P → Type 0) (window : ℕ) : Own → (was : Bool) → (old : P)
    → (now : Bool) → (new : P) → Type 0 where
  is_widened : (old new : P) (done : Bool) → receives old true → 65535 < window
      → widens old (lacking_of window) done new
      → WidensAfter receives widens window Came false old done new
  nothing_left : (old : P) → receives old true
      → WidensAfter receives widens window Came false old false old
  receives_none : (old : P) → receives old false
      → WidensAfter receives widens window Came false old false old
  was_widened : (own : Own) (old : P) → WidensAfter receives widens window own true old true old
  none_came : (own : Own) (was : Bool) (old : P) → own ≢ Came
      → WidensAfter receives widens window own was old was old

-- The step is that of time that has passed.
abbrev pub IsTimeStep : Own → Type 0
IsTimeStep (Passed now) = Unit {0}
IsTimeStep own = ⊥

-- The connection has made the step, and after it, where octets of a body have come, its window may
-- have been widened, which it is once at most; or before it, where time has passed, it was asked to
-- end in order, which it is once at most.
-- rule: hosts (own) A connection is asked once to end in order, as time passes
-- rule: hosts (own) A connection is widened once, as a body comes, by what is left
abbrev pub GuestSteps : {P : Type 0} → (leaves : P → P → Type 0)
    → (steps : P → Own → List ℕ → Answer → P → Type 0) → (receives : P → Bool → Type 0)
    → (widens : P → ℕ → Bool → P → Type 0) → (old : Guest P) → Own → (octets : List ℕ) → Answer
    → (new : Guest P) → Type 0
GuestSteps {P} leaves steps receives widens old own octets answer new =
    ((new.asked ≡ old.asked) × ((stepped : P)
    × steps old.party.value own octets answer stepped
    × WidensAfter receives widens old.windows.now.window own (is_some old.widened) stepped
    (is_some new.widened) new.party.value))
    ⊎ ((old.asked ≡ false) × (new.asked ≡ true) × IsTimeStep own
    × (new.widened ≡ old.widened) × ((asked : P) × leaves old.party.value asked
    × steps asked own octets answer new.party.value))
