-- A field block leaves a table within its maximum, and that within the limit.
use Rattle.h2_core.proofs.Names.{◌≡◌, ℕ, ◌≤◌, Entries}
use Rattle.hpack.specs.Sizes.{table_size}

-- A table has this maximum and is within it.
pub record IsWithin (table : Entries) (maximum : ℕ) : Type 0 where
  pub same : table.maximum ≡ maximum
  pub size : table_size table.entries ≤ maximum
