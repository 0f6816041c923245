-- Making an end.
use Rattle.std.specs.Prelude.{◌≡◌, ℤ, [], Option, None, Some}
use Rattle.h2_spec_log.specs.Acts.{Values}
use Rattle.h2_spec_log.specs.declared.role.Role.{Role}
use Rattle.h2_flow.specs.declared.config.BadConfig.{BadConfig}
use Rattle.h2_flow.specs.Configs.{first_bad}
use Rattle.h2_ends.specs.Represents.{EndRepresents, new_end_log}
use Rattle.belkjoef.specs.declared.held.Held.{Held}
use Rattle.belkjoef.specs.declared.held.Side.{Side}
use Rattle.belkjoef.specs.Helds.{end_in, side_role}
use Rattle.belkjoef.specs.Numbers.{ok, held, config_number, no_memory}

-- It is a new end of this role, with these values.
pub record IsNewSide (role : Role) (values : Values) (side : Side) : Type 0 where
  pub role_is : side_role side ≡ role
  pub end : EndRepresents values (end_in side) (new_end_log role values)

-- The place holds this end, without a number of C's beside any stream; or memory was refused, and
-- it holds none.
abbrev pub PutsNew : Side → ℤ → Option Held → Type 0
PutsNew side answer None = answer ≡ no_memory
PutsNew side answer (Some made) =
    (answer ≡ ok) × (made.side ≡ side) × (made.users.entries ≡ [])

-- The place holds a new end, without a number of C's beside any stream; or memory was refused, and
-- it holds none.
abbrev pub HoldsNew : Role → Values → ℤ → Option Held → Type 0
HoldsNew role values answer None = answer ≡ no_memory
HoldsNew role values answer (Some made) =
    (answer ≡ ok) × IsNewSide role values made.side × (made.users.entries ≡ [])

-- Where a value is out of its bounds the answer is the number of the first one, and the place
-- holds none.
abbrev pub MakesWithin : Option BadConfig → Role → Values → ℤ → Option Held → Type 0
MakesWithin (Some bad) role values answer new = (answer ≡ config_number bad) × (new ≡ None)
MakesWithin None role values answer new = HoldsNew role values answer new

-- What bj_encoder_new and bj_decoder_new do: a place that holds one still does; else it holds a new
-- one, or memory was refused, and it holds none.
-- rule: c (own) A place holds an end or nothing, and each call says which
abbrev pub MakesHeld : {A : Type 0} → (A → Type 0) → ℤ → (old new : Option A) → Type 0
MakesHeld IsNew answer (Some old) new = (answer ≡ held) × (new ≡ Some old)
MakesHeld IsNew answer None None = answer ≡ no_memory
MakesHeld IsNew answer None (Some made) = (answer ≡ ok) × IsNew made

-- What bj_server_new and bj_client_new do: a place that holds an end still does.
-- rule: c (own) A new end is made in an empty place, of values within bounds
abbrev pub MakesEnd : Role → Values → ℤ → (old new : Option Held) → Type 0
MakesEnd role values answer (Some old) new = (answer ≡ held) × (new ≡ Some old)
MakesEnd role values answer None new = MakesWithin (first_bad values) role values answer new
