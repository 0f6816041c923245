-- The numbers that C keeps beside streams.
use Rattle.std.specs.Prelude.{◌≡◌, ◌≢◌, ◌⊎◌, ◌==◌, ℕ, ℤ, if◌then◌else◌, Option, None, Some}
use Rattle.h2_numbers.specs.Entries.{value_at, SetsValue}
use Rattle.belkjoef.specs.declared.held.Held.{Held}
use Rattle.belkjoef.specs.Helds.{user_at}
use Rattle.belkjoef.specs.Numbers.{ok, no_memory}

-- what is kept of a number: nothing of 0
abbrev pub number_kept : ℕ → Option ℕ
number_kept user = if user == 0 then None else Some user

-- This number is kept beside a stream now, and nothing else has changed.
pub record HasUser (stream user : ℕ) (old new : Held) : Type 0 where
  pub side : new.side ≡ old.side
  pub sets : SetsValue stream (number_kept user) old.users.entries new.users.entries

-- Memory was refused for a number beside a stream that has none, and nothing has changed.
pub record LacksUser (stream user : ℕ) (old new : Held) : Type 0 where
  pub some : user ≢ 0
  pub none : value_at stream old.users.entries ≡ None
  pub side : new.side ≡ old.side
  pub users : new.users.entries ≡ old.users.entries

-- what bj_set_user does
-- rule: c (own) A number of C's stays beside its stream until it is forgotten
abbrev pub SetsUser : (stream user : ℕ) → ℤ → Held → Held → Type 0
SetsUser stream user answer old new =
    ((answer ≡ ok) × HasUser stream user old new)
    ⊎ ((answer ≡ no_memory) × LacksUser stream user old new)

-- what bj_user does
-- rule: c (own) A number of C's stays beside its stream until it is forgotten
pub record SaysUser (stream : ℕ) (answer : ℤ) (said : ℕ) (old new : Held) : Type 0 where
  pub told : answer ≡ ok
  pub value : said ≡ user_at old.users.entries stream
  pub same : new ≡ old
