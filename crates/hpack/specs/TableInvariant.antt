-- The invariant of a table: what is true of its parts between calls.
use Rattle.std.specs.Prelude.{◌≡◌, ◌/◌, ◌≤◌, max}
use Rattle.hpack.specs.declared.table.dynamic_table.Table.TheInside.{Inside}
use Rattle.hpack.specs.Sizes.{table_size}
use Rattle.hpack.specs.Tables.{Entries}

-- a table's entries and its maximum
abbrev pub entries_of : Inside → Entries
entries_of inside = record { entries = inside.ring.items; maximum = inside.maximum }

-- The size is that of the entries, it is at most the maximum, and the ring has room for all that
-- the maximum allows, and for one at least.
pub record TableInvariant (inside : Inside) : Type 0 where
  pub counted : inside.size ≡ table_size inside.ring.items
  pub within : inside.size ≤ inside.maximum
  pub capacity : inside.ring.capacity ≡ max (inside.maximum / 32) 1
