-- When what an encoder writes is a block: what is true of it between blocks, and of the fields that
-- it is given.
use Rattle.std.specs.Prelude.{◌^◌, ◌<◌, ◌≤◌, List}
use Rattle.std.specs.List.{AllByRecursion}
use Rattle.hpack_text.specs.Bits.{IsOctet}
use Rattle.hpack.specs.declared.types.field.Field.{Field}
use Rattle.hpack.specs.Sizes.{table_size}
use Rattle.hpack.specs.Lists.{EncoderState}

-- Limits and maxima are numbers of 32 bits, the least limit is no greater than the one now, and the
-- table is within its maximum.
-- rule: HPACK 3.1 What is encoded is a block of the list
pub record IsValidEncoder (state : EncoderState) : Type 0 where
  pub least : state.least ≤ state.limit
  pub limit : state.limit < 2 ^ 32
  pub maximum : state.table.maximum < 2 ^ 32
  pub within : table_size state.table.entries ≤ state.table.maximum

-- Names and values are octets.
-- rule: HPACK 3.1 What is encoded is a block of the list
abbrev pub AreOctets : List Field → Type 0
AreOctets fields = AllByRecursion
    (λ field. AllByRecursion IsOctet field.name × AllByRecursion IsOctet field.value) fields
