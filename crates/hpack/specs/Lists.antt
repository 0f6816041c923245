-- Lists of fields, and what a decoder or an encoder is between blocks.
use Rattle.std.specs.Prelude.{◌≡◌, ◌<◌, ◌≤◌, ℕ, ◌+◌, Bool, false, List, [], length, sum_by}
use Rattle.hpack.specs.declared.types.field.Field.{Field}
use Rattle.hpack.specs.declared.types.field.List.{List as AnsweredList}
use Rattle.hpack.specs.declared.types.field.List.TheVariants.{Whole, TooLarge}
use Rattle.hpack.specs.declared.types.field.Decoded.{Decoded}
use Rattle.hpack.specs.declared.types.field.Decoded.TheVariants as decoded
use Rattle.hpack.specs.declared.types.fault.Fault.{Fault}
use Rattle.hpack.specs.declared.types.fault.Fault.TheVariants as faults
use Rattle.hpack.specs.Tables.{Entries}
use Rattle.hpack.specs.Blocks.{Block}

-- the size of a list of fields (RFC 9113, section 6.5.2)
-- rule: 10.5.1 A list above 65,536 octets is a stream error ENHANCE_YOUR_CALM
-- rule: 6.5.2 The size of a list is the sum of name, value and 32
abbrev pub list_size : List Field → ℕ
list_size fields = sum_by (λ field. length field.name + length field.value + 32) fields

-- The list that is answered: the fields, or that their size is above the limit.
-- rule: 10.5.1 A list above 65,536 octets is a stream error ENHANCE_YOUR_CALM
abbrev pub IsList : ℕ → List Field → AnsweredList → Type 0
IsList list_limit fields (Whole items) = (items.items ≡ fields) × (list_size fields ≤ list_limit)
IsList list_limit fields TooLarge = list_limit < list_size fields

-- what a list that the caller keeps holds
-- rule: HPACK 3.2 (own) A list that the caller keeps is emptied, then has the block's fields
abbrev pub HoldsList : ℕ → List Field → Decoded → List Field → Type 0
HoldsList list_limit fields decoded.Whole list =
    (list ≡ fields) × (list_size fields ≤ list_limit)
HoldsList list_limit fields decoded.TooLarge list =
    (list ≡ []) × (list_limit < list_size fields)

-- a decoder between blocks
-- rule: HPACK 2.3.2 (own) The table that is lent is the decoder's or the encoder's own
pub record DecoderState : Type 0 where
  pub table : Entries
  -- the greatest maximum that an update may set
  pub limit : ℕ
  pub failed : Bool

-- an encoder between blocks
-- rule: HPACK 2.3.2 (own) The table that is lent is the decoder's or the encoder's own
pub record EncoderState : Type 0 where
  pub table : Entries
  -- the least limit since the last block, that of the last block included
  pub least : ℕ
  -- the limit now
  pub limit : ℕ

-- Nothing is a block of these octets.
-- rule: HPACK 3.1 A block is decoded exactly where its octets are one
abbrev pub NoBlock : Entries → ℕ → List ℕ → Type 0
NoBlock table limit octets = (fields : List Field) (after : Entries)
    → Block table limit octets fields after → ⊥

-- what a fault of decoding says, of a decoder that hadn't failed
-- rule: HPACK 3.1 A block is decoded exactly where its octets are one
abbrev pub DecodeFault : Entries → ℕ → List ℕ → Fault → Type 0
DecodeFault table limit octets faults.Compression = NoBlock table limit octets
DecodeFault table limit octets faults.Memory = Unit {0}
DecodeFault table limit octets faults.Failed = ⊥

-- A block was decoded: its fields are answered, and its table is the decoder's.
-- rule: HPACK 3.1 A block is decoded exactly where its octets are one
pub record Decodes (old : DecoderState) (octets : List ℕ) (list_limit : ℕ) (list : AnsweredList)
    (new : DecoderState) : Type 0 where
  pub fields : List Field
  pub after : Entries
  pub block : Block old.table old.limit octets fields after
  pub handed : IsList list_limit fields list
  pub state : new ≡ record { table = after; limit = old.limit; failed = false }

-- A block was decoded into a list that the caller keeps.
-- rule: HPACK 3.1 A block is decoded exactly where its octets are one
-- rule: HPACK 3.2 (own) A list that the caller keeps is emptied, then has the block's fields
pub record DecodesInto (old : DecoderState) (octets : List ℕ) (list_limit : ℕ) (decoded : Decoded)
    (list : List Field) (new : DecoderState) : Type 0 where
  pub fields : List Field
  pub after : Entries
  pub block : Block old.table old.limit octets fields after
  pub holds : HoldsList list_limit fields decoded list
  pub state : new ≡ record { table = after; limit = old.limit; failed = false }

-- a decoder or an encoder that was made with a maximum
abbrev pub empty_table : ℕ → Entries
empty_table maximum = record { entries = []; maximum = maximum }
