-- What a host asks of a party that it refuses.
use Rattle.std.specs.Prelude.{◌≡◌, ℕ, Bool, true}
use Rattle.h2_host.specs.declared.party.Answer.{Answer}
use Rattle.h2_host.specs.declared.party.Answer.TheVariants.{Over}
use Rattle.h2_host.specs.declared.party.Own.{Own}
use Rattle.h2_host.specs.declared.party.Own.TheVariants.{Passed, Refused}

-- The step is a refusal.
abbrev pub IsRefusal : Own → Type 0
IsRefusal (Refused bound) = Unit {0}
IsRefusal own = ⊥

-- A party that was refused is over, holds nothing that counts, and is ready: so it has a turn, in
-- which the driver learns of it.
pub record IsGivenUp (answer : Answer) (held : ℕ) (ready : Bool) : Type 0 where
  pub over : answer ≡ Over
  pub holds_none : held ≡ 0
  pub is_ready : ready ≡ true

-- The step is time that passes, or a refusal.
abbrev pub IsOwnOfHost : Own → Type 0
IsOwnOfHost (Passed now) = Unit {0}
IsOwnOfHost (Refused bound) = Unit {0}
IsOwnOfHost own = ⊥
