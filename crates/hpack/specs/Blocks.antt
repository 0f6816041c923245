-- Field blocks: what the octets of a block say at a table (RFC 7541, sections 3, 4.2 and 6; RFC
-- 9113, section 4.3).
-- contract: hpack::Decoder::decode
use Rattle.std.specs.Prelude.{◌≡◌, ◌⊎◌, ℕ, ◌≤◌, ◌<◌, Bool, true, false, List, [], ◌∷◌, ◌++◌, Some}
use Rattle.hpack_text.specs.Integers.{Int}
use Rattle.hpack_text.specs.Strings.{Str}
use Rattle.hpack.specs.Entry.{Entry}
use Rattle.hpack.specs.declared.types.field.Field.{Field}
use Rattle.hpack.specs.declared.types.literal.Literal.{Literal}
use Rattle.hpack.specs.declared.types.literal.Literal.TheVariants.{WithIndexing, WithoutIndexing}
use Rattle.hpack.specs.declared.types.literal.Literal.TheVariants.{NeverIndexed}
use Rattle.hpack.specs.Sizes.{add}
use Rattle.hpack.specs.Static.{entry}
use Rattle.hpack.specs.Tables.{Entries, resized}

-- The first octet is at least the one and below the other: its first bits are given so.
abbrev pub FirstOctet : ℕ → ℕ → List ℕ → Type 0
FirstOctet low high [] = ⊥
FirstOctet low high (first ∷ more) = (low ≤ first) × (first < high)

-- First bit 1: an indexed field (section 6.1).
-- rule: HPACK 6.1 An indexed field is the entry
-- rule: HPACK 6.1 An indexed field of index 0 is a fault
abbrev pub Indexed : ℕ → List ℕ → Type 0
Indexed index octets = FirstOctet 0x80 0x100 octets × Int 7 index octets

-- First bits 001: a size update (section 6.3).
-- rule: HPACK 4.2 Size updates stand at the beginning of a block
abbrev pub Update : ℕ → List ℕ → Type 0
Update maximum octets = FirstOctet 0x20 0x40 octets × Int 5 maximum octets

-- First bits 01, 0000 or 0001: a literal's head, with the index of its name, or 0 (section 6.2).
-- rule: HPACK 6.2.1 A literal with incremental indexing is added to the table
abbrev pub LiteralHead : Literal → ℕ → List ℕ → Type 0
LiteralHead WithIndexing index octets = FirstOctet 0x40 0x80 octets × Int 6 index octets
LiteralHead WithoutIndexing index octets = FirstOctet 0x00 0x10 octets × Int 4 index octets
LiteralHead NeverIndexed index octets = FirstOctet 0x10 0x20 octets × Int 4 index octets

-- A literal's name: with index 0 it follows as a string, otherwise it is that of the entry, and has
-- no octets.
-- rule: HPACK 4.4 A name by index is looked up before entries leave
-- rule: HPACK 6.2 A literal has its name from an index or a string
abbrev pub LiteralName : List Entry → ℕ → List ℕ → List ℕ → Type 0
LiteralName entries index name octets =
    ((index ≡ 0) × Str name octets)
    ⊎ ((octets ≡ [])
    × ((value : List ℕ) × (entry entries index ≡ Some (record { name = name; value = value }))))

-- what a literal leaves of the table
-- rule: HPACK 6.2.1 A literal with incremental indexing is added to the table
-- rule: HPACK 6.2.2 A literal without indexing is not added
-- rule: HPACK 6.2.3 A literal never indexed is not added, and is sensitive
abbrev pub after_literal : Literal → Entries → Entry → Entries
after_literal WithIndexing table new =
    record { entries = add table.entries new table.maximum; maximum = table.maximum }
after_literal WithoutIndexing table new = table
after_literal NeverIndexed table new = table

-- a literal that is never indexed is sensitive
-- rule: HPACK 6.2.3 A literal never indexed is not added, and is sensitive
abbrev pub is_sensitive : Literal → Bool
is_sensitive WithIndexing = false
is_sensitive WithoutIndexing = false
is_sensitive NeverIndexed = true

-- The octets encode the field at the table, and lead to another table. Names and values are looked
-- up in the former.
-- rule: HPACK 4.4 A name by index is looked up before entries leave
-- rule: HPACK 3.1 A block is decoded exactly where its octets are one
pub data Step (table : Entries) (octets : List ℕ) (field : Field) (after : Entries) : Type 0 where
  by_index : (index : ℕ) → Indexed index octets
      → entry table.entries index ≡ Some (record { name = field.name; value = field.value })
      → field.sensitive ≡ false → after ≡ table → Step table octets field after
  by_literal : (kind : Literal) (index : ℕ) (head name value : List ℕ)
      → octets ≡ head ++ (name ++ value) → LiteralHead kind index head
      → LiteralName table.entries index field.name name → Str field.value value
      → field.sensitive ≡ is_sensitive kind
      → after ≡ after_literal kind table (record { name = field.name; value = field.value })
      → Step table octets field after

-- The octets encode the fields, one after another.
-- rule: HPACK 3.1 A block is decoded exactly where its octets are one
abbrev pub Fields : Entries → List ℕ → List Field → Entries → Type 0
Fields table octets [] after = (octets ≡ []) × (after ≡ table)
Fields table octets (field ∷ fields) after =
    (first others : List ℕ) × (between : Entries) × (octets ≡ first ++ others)
    × Step table first field between × Fields between others fields after

-- The octets begin with updates to these maxima, none of them above the limit, and leave others.
-- rule: HPACK 6.3 A size update above the limit is a fault
-- rule: HPACK 4.2 Size updates stand at the beginning of a block
abbrev pub Updates : ℕ → Entries → List ℕ → List ℕ → Entries → List ℕ → Type 0
Updates limit table octets [] after others = (after ≡ table) × (others ≡ octets)
Updates limit table octets (maximum ∷ maxima) after others =
    (first more : List ℕ) × (octets ≡ first ++ more) × Update maximum first × (maximum ≤ limit)
    × Updates limit (resized table maximum) more maxima after others

-- The octets are a block of the fields, for a decoder with the table and the limit, and leave
-- another table: updates, after which the maximum is within the limit, and then the fields.
-- rule: HPACK 4.2 A block without the update that a lower limit asks for is a fault
-- rule: HPACK 3.1 A block is decoded exactly where its octets are one
pub record Block (table : Entries) (limit : ℕ) (octets : List ℕ) (fields : List Field)
    (after : Entries) : Type 0 where
  pub maxima : List ℕ
  pub updated : Entries
  pub others : List ℕ
  pub updates : Updates limit table octets maxima updated others
  pub within : updated.maximum ≤ limit
  pub encoded : Fields updated others fields after
