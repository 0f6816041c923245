-- The size of entries and tables, and what of a table fits (RFC 7541, sections 4.1, 4.3 and 4.4).
use Rattle.std.specs.Prelude.{ℕ, ◌+◌, ◌-◌, nat_le, if◌then◌else◌, List, [], ◌∷◌, length, sum_by}
use Rattle.hpack.specs.Entry.{Entry}

-- an entry's size: the octets of its name and of its value, and 32
-- rule: HPACK 4.1 The size of an entry is that of name and value, and 32
abbrev pub entry_size : Entry → ℕ
entry_size entry = length entry.name + length entry.value + 32

-- the size of entries is the sum of their sizes
-- rule: HPACK 4.1 The size of an entry is that of name and value, and 32
-- rule: HPACK 2.3.2 (own) A table says its length, size and maximum
abbrev pub table_size : List Entry → ℕ
table_size entries = sum_by entry_size entries

-- the longest prefix of the entries whose size is at most the bound
-- rule: HPACK 4.4 The oldest entries leave until the size is at most the maximum
unfoldable pub fit : List Entry → ℕ → List Entry
fit [] bound = []
fit (entry ∷ entries) bound = if nat_le (entry_size entry) bound
    then entry ∷ fit entries (bound - entry_size entry) else []

-- An entry becomes the newest, and the oldest leave until the size is at most the bound.
-- rule: HPACK 2.3.2 The dynamic table has its newest entry first
-- rule: HPACK 4.4 The oldest entries leave until the size is at most the maximum
-- rule: HPACK 4.4 An entry larger than the maximum empties the table
abbrev pub add : List Entry → Entry → ℕ → List Entry
add entries entry bound = fit (entry ∷ entries) bound
