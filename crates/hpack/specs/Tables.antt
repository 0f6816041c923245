-- A table as its entries, newest first, and its maximum.
use Rattle.std.specs.Prelude.{ℕ, List, Option, None, Some}
use Rattle.hpack.specs.Entry.{Entry}
use Rattle.hpack.specs.Sizes.{fit, add}

-- rule: HPACK 2.3.2 The dynamic table has its newest entry first
pub record Entries : Type 0 where
  pub entries : List Entry
  pub maximum : ℕ

-- a table whose maximum is set: the oldest entries leave until the size is at most that
-- rule: HPACK 6.3 A size update sets the maximum
-- rule: HPACK 4.4 The oldest entries leave until the size is at most the maximum
abbrev pub resized : Entries → ℕ → Entries
resized table maximum = record { entries = fit table.entries maximum; maximum = maximum }

-- a table after updates: their least maximum but for the last, and then the last
-- rule: HPACK 6.3 A size update sets the maximum
abbrev pub after_maxima : Entries → Option (ℕ × ℕ) → Entries
after_maxima table None = table
after_maxima table (Some (least, last)) = resized (resized table least) last

-- a table to which an entry is added
abbrev pub added_to : Entries → Entry → Entries
added_to table one = record {
  entries = add table.entries one table.maximum;
  maximum =
      table.maximum;
}
