-- An encoder and a decoder of field blocks, in places of C's.
use Rattle.std.specs.Prelude.{◌≡◌, ◌⊎◌, ◌≤◌, ◌^◌, ℕ, ℤ, true, false, List, [], length}
use Rattle.std.specs.Prelude.{Option, None, Some, Result, Ok, Err, IfOk, OnErr, IfErr}
use Rattle.std.specs.Borrow.{Bor}
use Rattle.hpack.specs.declared.types.fault.Fault.{Fault}
use Rattle.hpack.specs.declared.types.fault.Fault.TheVariants as faults
use Rattle.hpack.specs.declared.types.field.Decoded.{Decoded}
use Rattle.hpack.specs.declared.types.field.Decoded.TheVariants as decodeds
use Rattle.hpack.specs.declared.types.field.Field.{Field}
use Rattle.hpack.specs.Blocks.{Block}
use Rattle.hpack.specs.Choice.{block_of, after_block}
use Rattle.hpack.specs.Limits.{after_limit}
use Rattle.hpack.specs.Lists.{EncoderState, DecodesInto, DecodeFault, empty_table, list_size}
use Rattle.hpack.specs.Tables.{Entries}
use Rattle.belkjoef.specs.declared.decoder.HeldDecoder.{HeldDecoder}
use Rattle.belkjoef.specs.declared.encoder.HeldEncoder.{HeldEncoder}
use Rattle.belkjoef.specs.declared.output.BjSpan.{BjSpan}
use Rattle.belkjoef.specs.Lent.{span_of}
use Rattle.belkjoef.specs.Numbers.{ok, no_memory, list_too_large, compression, broken}

-- a new encoder: its table is empty, and this is its maximum and its limit
abbrev pub IsNewEncoder : ℕ → HeldEncoder → Type 0
IsNewEncoder maximum held = held.encoder ≡ record {
  table = empty_table maximum;
  least = maximum;
  limit = maximum;
}

-- a new decoder: so is it, and no field was decoded
abbrev pub IsNewDecoder : ℕ → HeldDecoder → Type 0
IsNewDecoder maximum held = (held.decoder ≡ record {
  table = empty_table maximum;
  limit = maximum;
  failed = false;
}) × (held.list ≡ [])

-- what bj_encoder_set_limit does
abbrev pub LimitsEncoder : ℕ → ℤ → HeldEncoder → HeldEncoder → Type 0
LimitsEncoder limit answer old new =
    (answer ≡ ok) × (new.encoder ≡ after_limit old.encoder limit)

-- what bj_decoder_set_limit does
abbrev pub LimitsDecoder : ℕ → ℤ → HeldDecoder → HeldDecoder → Type 0
LimitsDecoder limit answer old new =
    (answer ≡ ok) × (new ≡ record old { decoder = record old.decoder { limit = limit } })

-- The block of the fields is lent. It is a block of the list for every decoder with the same table
-- whose limit isn't below the encoder's.
-- rule: c (own) An encoder makes blocks of its list, and a decoder lists of its block
pub record LendsBlock (fields : List Field) (said : BjSpan) (old new : EncoderState) : Type 0 where
  pub lent : Bor (List ℕ)
  pub said_is : said ≡ span_of lent
  pub block : lent.now ≡ block_of old fields
  pub after : new ≡ after_block old fields
  pub decodes : (limit : ℕ) → old.limit ≤ limit
      → Block old.table limit (block_of old fields) fields new.table

-- What bj_encode does: it lends the block of the fields. Or else the list is too large, or memory
-- was refused, and the encoder is as it was, and nothing is said.
-- rule: c (own) An encoder makes blocks of its list, and a decoder lists of its block
abbrev pub EncodesFields : List Field → ℤ → (before said : BjSpan) → (old new : HeldEncoder)
    → Type 0
EncodesFields fields answer before said old new =
    ((answer ≡ ok) × LendsBlock fields said old.encoder new.encoder)
    ⊎ (((answer ≡ list_too_large) × (2 ^ 35 ≤ list_size fields) × (said ≡ before)
    × (new.encoder ≡ old.encoder))
    ⊎ ((answer ≡ no_memory) × (said ≡ before) × (new.encoder ≡ old.encoder)))

-- the number of a fault of a block
-- rule: c (own) Each error has its number
abbrev pub fault_number : Fault → ℤ
fault_number faults.Compression = compression
fault_number faults.Memory = no_memory
fault_number faults.Failed = broken

-- 0, or why there is no list
abbrev pub decoded_number : Result Decoded Fault → ℤ
decoded_number (Ok decodeds.Whole) = ok
decoded_number (Ok decodeds.TooLarge) = list_too_large
decoded_number (Err fault) = fault_number fault

-- What bj_decode does: what `Decoder::decode_into` promises, into the list that is kept.
-- rule: c (own) An encoder makes blocks of its list, and a decoder lists of its block
pub record DecodesBlock (block : List ℕ) (list_limit : ℕ) (answer : ℤ) (old new : HeldDecoder)
    : Type 0 where
  pub outcome : Result Decoded Fault
  pub told : answer ≡ decoded_number outcome
  -- After a fault every call answers that there was one, and the decoder stays as it is.
  pub failed : old.decoder.failed ≡ true
      → (outcome ≡ Err faults.Failed) × (new.decoder ≡ old.decoder)
  -- The list is that of the block.
  pub list : IfOk outcome (λ decoded. (old.decoder.failed ≡ false)
      × DecodesInto old.decoder block list_limit decoded new.list new.decoder)
  -- What is a block is decoded, unless memory runs out.
  pub only : (fields : List Field) (after : Entries) → old.decoder.failed ≡ false
      → Block old.decoder.table old.decoder.limit block fields after
      → IfErr outcome (λ fault. fault ≡ faults.Memory)
  pub fault : old.decoder.failed ≡ false
      → IfErr outcome (DecodeFault old.decoder.table old.decoder.limit block)
  pub fails : OnErr outcome (new.decoder.failed ≡ true)
  pub emptied : OnErr outcome (new.list ≡ [])

-- how many fields were decoded last; 0 where there is no decoder
abbrev pub count_decoded : Option HeldDecoder → ℕ
count_decoded None = 0
count_decoded (Some held) = length held.list

-- This is so of the list that was decoded last, and nothing has changed.
pub record OfDecoded (Is : List Field → Type 0) (old new : HeldDecoder) : Type 0 where
  pub is : Is old.list
  pub same : new ≡ old
