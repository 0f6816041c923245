-- What a table by numbers ends as, once a `&mut` into it has ended.
use Rattle.std.specs.Prelude.{◌≡◌, ℕ, Option, Some, IsSome}
use Rattle.std.specs.Borrow.{Fml, RattleType, MutBor, LendsSo}
use Rattle.std.specs.Map.{keys_of}
use Rattle.h2_numbers.specs.Entries.{SetsValue, value_at}
use Rattle.h2_numbers.specs.Tables.{TableEntries, all_of}
use Rattle.h2_numbers.specs.contracts.table.NumberTable.{the_row}

-- The new table is the old one after this was written at the number that `get_mut` has found: it has
-- the same numbers.
pub record TableWrites {V : Type 0} (id : ℕ) (old : TableEntries V) (value : V)
    (new : TableEntries V) : Type 0 where
  pub numbers : keys_of (all_of new) ≡ keys_of (all_of old)
  pub changes : IsSome (value_at id (all_of old))
      → SetsValue id (Some value) (all_of old) (all_of new)

-- the table has at the number the last value written through the result, and is as it was at `None`
abbrev pub table_lends_at : (V : RattleType) → MutBor (TableEntries V.Denot) → ℕ
    → Option (MutBor V.Denot) → Fml
table_lends_at V table id result = LendsSo (the_row V) V table result
    (λ new value. TableWrites id table.now value new) (λ new. new ≡ table.now)
