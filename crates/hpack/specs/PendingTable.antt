-- Pending tables: what becomes of a table, while the table itself stays as it is.
use Rattle.std.specs.Prelude.{◌≡◌, ℕ, ◌/◌, ◌^◌, ◌<◌, ◌≤◌, List, [], ◌++◌, length, take, reverse}
use Rattle.std.specs.Prelude.{fold}
use Rattle.hpack.specs.Entry.{Entry}
use Rattle.hpack.specs.declared.encode.pending_table.PendingTable.{PendingTable}
use Rattle.hpack.specs.Sizes.{table_size}
use Rattle.hpack.specs.Tables.{Entries, added_to}
use Rattle.hpack.specs.Chains.{IsIndexOf}

-- all entries of a pending table, the newest first: those that were added, then the table's own
abbrev pub newest_first : PendingTable → Entries → List Entry
newest_first pending table = reverse pending.added.items ++ table.entries

-- the table that a pending table represents
abbrev pub represented : PendingTable → Entries → Entries
represented pending table = record {
  entries = take pending.live (newest_first pending table);
  maximum = pending.maximum;
}

-- how many entries the index has room for
abbrev pub capacity_of : PendingTable → ℕ
capacity_of pending = pending.index.names.skips.capacity

-- The pending table counts its live entries, finds them, and is within its maximum.
pub record IsPendingTable (pending : PendingTable) (table : Entries) : Type 0 where
  pub live : pending.live ≤ length (newest_first pending table)
  pub counted : pending.size ≡ table_size (take pending.live (newest_first pending table))
  pub within : pending.size ≤ pending.maximum
  pub small : pending.maximum < 2 ^ 32
  pub index : IsIndexOf pending.index (take pending.live (newest_first pending table))
  pub room : pending.maximum / 32 < capacity_of pending

-- Between two blocks nothing is pending, and the index is that of the table's entries.
pub record IsReady (pending : PendingTable) (table : Entries) : Type 0 where
  pub none_added : pending.added.items ≡ []
  pub index : IsIndexOf pending.index table.entries
  pub room : table.maximum / 32 < capacity_of pending

-- a table to which entries are added, one after another
abbrev pub all_added : Entries → List Entry → Entries
all_added table entries = fold added_to table entries

-- Where the entries added so far lead from a table to the one represented, they do so with those
-- added next.
abbrev pub PreservesAdded : Entries → PendingTable → PendingTable → Type 0
PreservesAdded table old new = (base : Entries)
    → all_added base old.added.items ≡ represented old table
    → all_added base new.added.items ≡ represented new table
