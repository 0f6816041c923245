-- What a map by numbers ends as, once a `&mut` into it has ended.
use Rattle.std.specs.Prelude.{◌≡◌, ℕ, Option, Some, IsSome}
use Rattle.std.specs.Borrow.{Fml, RattleType, MutBor, LendsSo}
use Rattle.h2_numbers.specs.Entries.{NumberEntries, SetsValue, value_at}
use Rattle.h2_numbers.specs.contracts.map.NumberMap.{the_row}

-- The new map is the old one after this was written at the number that `get_mut` has found.
pub record WritesThrough {V : Type 0} (id : ℕ) (old : NumberEntries V) (value : V)
    (new : NumberEntries V) : Type 0 where
  pub changes : IsSome (value_at id old.entries)
      → SetsValue id (Some value) old.entries new.entries

-- the map has at the number the last value written through the result, and is as it was at `None`
abbrev pub lends_at : (V : RattleType) → MutBor (NumberEntries V.Denot) → ℕ
    → Option (MutBor V.Denot) → Fml
lends_at V map id result = LendsSo (the_row V) V map result
    (λ new value. WritesThrough id map.now value new) (λ new. new ≡ map.now)
