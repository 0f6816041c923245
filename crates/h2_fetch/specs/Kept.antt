-- What is kept of streams, and the first that is kept of one.
use Rattle.std.specs.Prelude.{◌≡◌, ◌≢◌, ℕ, List, [], ◌∷◌, ◌++◌, Option, Some, None}
use Rattle.h2_fetch.specs.declared.connection.Came.{Came}
use Rattle.h2_fetch.specs.declared.kept.Queue.{Queue}
use Rattle.h2_fetch.specs.Several.{came_as, kept_on}

-- What is kept of each stream is what was; or of each other one.
abbrev pub KeepsAll : (old new : List (ℕ × Queue)) → Type 0
KeepsAll old new = (i : ℕ) → kept_on i new ≡ kept_on i old

abbrev pub KeepsElsewhere : ℕ → (old new : List (ℕ × Queue)) → Type 0
KeepsElsewhere id old new = (i : ℕ) → i ≢ id → kept_on i new ≡ kept_on i old

-- The first that is kept of a stream is taken from there, or nothing is kept of it.
unfoldable pub TakesKept : ℕ → (old new : List (ℕ × Queue)) → Option Came → Type 0
TakesKept id old new None = (kept_on id old ≡ []) × KeepsAll old new
TakesKept id old new (Some came) =
    (kept_on id old ≡ came_as id came ∷ kept_on id new) × KeepsElsewhere id old new

-- This is kept of a stream after all that was.
pub record KeepsAlso (id : ℕ) (came : Came) (old new : List (ℕ × Queue)) : Type 0
  where
    pub last : kept_on id new ≡ kept_on id old ++ came_as id came ∷ []
    pub others : KeepsElsewhere id old new
