-- Prefixes of octets that encode something, what a fault of reading one says, and what was read of
-- a block so far.
use Rattle.std.specs.Prelude.{◌≡◌, ℕ, ◌≤◌, ◌<◌, List, ◌++◌, Some}
use Rattle.hpack_text.specs.declared.fault.TextFault.{TextFault}
use Rattle.hpack_text.specs.declared.fault.TextFault.TheVariants as text_faults
use Rattle.hpack_text.specs.Integers.{Int}
use Rattle.hpack_text.specs.Strings.{Str}
use Rattle.hpack.specs.Entry.{Entry}
use Rattle.hpack.specs.declared.types.field.Field.{Field}
use Rattle.hpack.specs.declared.types.fault.Fault.{Fault}
use Rattle.hpack.specs.declared.types.fault.Fault.TheVariants as faults
use Rattle.hpack.specs.declared.types.literal.Literal.{Literal}
use Rattle.hpack.specs.declared.types.literal.Literal.TheVariants.{WithIndexing, WithoutIndexing}
use Rattle.hpack.specs.declared.types.literal.Literal.TheVariants.{NeverIndexed}
use Rattle.hpack.specs.Static.{entry}
use Rattle.hpack.specs.Tables.{Entries}
use Rattle.hpack.specs.Blocks.{FirstOctet, LiteralName, Step, Fields, Block}

-- No prefix of the octets is such an encoding.
abbrev pub NoPrefix : (List ℕ → Type 0) → List ℕ → Type 0
NoPrefix Encodes octets = (prefix others : List ℕ) → octets ≡ prefix ++ others → Encodes prefix → ⊥

-- what a fault of reading such a prefix says of the octets
abbrev pub PrefixFault : (List ℕ → Type 0) → List ℕ → Fault → Type 0
PrefixFault Encodes octets faults.Compression = NoPrefix Encodes octets
PrefixFault Encodes octets faults.Memory = Unit {0}
PrefixFault Encodes octets faults.Failed = ⊥

-- the fault of a block, for one of its texts
abbrev pub fault_of_text : TextFault → Fault
fault_of_text text_faults.Truncated = faults.Compression
fault_of_text text_faults.TooLong = faults.Compression
fault_of_text text_faults.BadPadding = faults.Compression
fault_of_text text_faults.EndSymbol = faults.Compression
fault_of_text text_faults.Memory = faults.Memory

-- The octets encode some integer with the prefix.
abbrev pub IsInt : ℕ → List ℕ → Type 0
IsInt prefix_bits octets = (value : ℕ) × Int prefix_bits value octets

-- The octets encode some string.
abbrev pub IsStr : List ℕ → Type 0
IsStr octets = (text : List ℕ) × Str text octets

-- The octets are some literal's name, for an index.
abbrev pub IsName : List Entry → ℕ → List ℕ → Type 0
IsName entries index octets = (name : List ℕ) × LiteralName entries index name octets

-- The octets encode an index, with a prefix of so many bits, then a name and a value.
pub record EncodesLiteral (entries : List Entry) (prefix_bits : ℕ)
    (octets name value : List ℕ) : Type 0 where
  pub index : ℕ
  pub head : List ℕ
  pub name_octets : List ℕ
  pub value_octets : List ℕ
  pub joined : octets ≡ head ++ (name_octets ++ value_octets)
  pub head_encoded : Int prefix_bits index head
  pub name_encoded : LiteralName entries index name name_octets
  pub value_encoded : Str value value_octets

-- The octets encode some literal.
abbrev pub IsLiteral : List Entry → ℕ → List ℕ → Type 0
IsLiteral entries prefix_bits octets = (name : List ℕ) × (value : List ℕ)
    × EncodesLiteral entries prefix_bits octets name value

-- The octets encode the index of an entry, with a prefix of seven bits.
pub record EncodesIndex (entries : List Entry) (octets name value : List ℕ) : Type 0 where
  pub index : ℕ
  pub encoded : Int 7 index octets
  pub named : entry entries index ≡ Some (record { name = name; value = value })

-- The octets encode the index of some entry.
abbrev pub IsIndex : List Entry → List ℕ → Type 0
IsIndex entries octets = (name : List ℕ) × (value : List ℕ) × EncodesIndex entries octets name value

-- The octets encode some field at the table.
abbrev pub IsStep : Entries → List ℕ → Type 0
IsStep table octets = (field : Field) × (after : Entries) × Step table octets field after

-- how many bits of the index are in a literal's first octet
abbrev pub prefix_bits_of : Literal → ℕ
prefix_bits_of WithIndexing = 6
prefix_bits_of WithoutIndexing = 4
prefix_bits_of NeverIndexed = 4

-- The octet has the first bits of such a literal.
abbrev pub IsKind : Literal → ℕ → Type 0
IsKind WithIndexing first = (0x40 ≤ first) × (first < 0x80)
IsKind WithoutIndexing first = first < 0x10
IsKind NeverIndexed first = (0x10 ≤ first) × (first < 0x20)

-- The octets encode no fields.
abbrev pub NoFields : Entries → List ℕ → Type 0
NoFields table octets = (fields : List Field) (after : Entries) → Fields table octets fields after
    → ⊥

-- what a fault of reading fields says of the octets
abbrev pub FieldsFault : Entries → List ℕ → Fault → Type 0
FieldsFault table octets faults.Compression = NoFields table octets
FieldsFault table octets faults.Memory = Unit {0}
FieldsFault table octets faults.Failed = ⊥

-- The first octet is that of an update.
abbrev pub BeginsUpdate : List ℕ → Type 0
BeginsUpdate octets = FirstOctet 0x20 0x40 octets

-- what was read of the updates so far: the unparsed octets are a block at the table now exactly
-- where all are one at the table before
pub record UpdatesSoFar (table : Entries) (limit : ℕ) (octets : List ℕ) (now : Entries)
    (unparsed : List ℕ) : Type 0 where
  pub sound : (fields : List Field) (after : Entries) → Block now limit unparsed fields after
      → Block table limit octets fields after
  pub complete : (fields : List Field) (after : Entries) → Block table limit octets fields after
      → Block now limit unparsed fields after
