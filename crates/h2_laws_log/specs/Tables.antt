-- The tables of fields of an end that writes blocks and of one that reads them.
use Rattle.std.specs.Prelude.{◌≡◌, ℕ, ◌^◌, ◌<◌, ◌≤◌, List, [], ◌∷◌, fold}
use Rattle.std.specs.List.{AllByRecursion}
use Rattle.hpack.specs.declared.types.field.Field.{Field}
use Rattle.hpack.specs.Tables.{Entries}
use Rattle.hpack.specs.Blocks.{Block}
use Rattle.hpack.specs.Lists.{EncoderState, list_size}
use Rattle.hpack.specs.Choice.{block_of, after_block}
use Rattle.hpack.specs.Written.{AreOctets}
use Rattle.hpack.specs.Limits.{after_limit}

-- a block of a connection: the limits that its encoder was given since the last one, its fields,
-- and the limit of its reader's decoder
pub record SentBlock : Type 0 where
  pub limits : List ℕ
  pub fields : List Field
  pub reader : ℕ

-- the encoder just before a block
abbrev pub encoder_before : EncoderState → SentBlock → EncoderState
encoder_before encoder sending = fold after_limit encoder sending.limits

-- the octets of the blocks, in order
abbrev pub octets_sent : EncoderState → List SentBlock → List (List ℕ)
octets_sent encoder [] = []
octets_sent encoder (sending ∷ others) =
    block_of (encoder_before encoder sending) sending.fields ∷ octets_sent (after_block
    (encoder_before encoder sending) sending.fields) others

-- the encoder after them
abbrev pub encoder_after : EncoderState → List SentBlock → EncoderState
encoder_after encoder [] = encoder
encoder_after encoder (sending ∷ others) = encoder_after (after_block
    (encoder_before encoder sending) sending.fields) others

-- At each block the reader's limit isn't below the writer's; limits have 32 bits, fields are
-- octets, and lists are within what strings hold.
abbrev pub AreWithinLimits : EncoderState → List SentBlock → Type 0
AreWithinLimits encoder [] = Unit {0}
AreWithinLimits encoder (sending ∷ others) =
    AllByRecursion (λ limit. limit < 2 ^ 32) sending.limits × AreOctets sending.fields
    × (list_size sending.fields < 2 ^ 35)
    × ((encoder_before encoder sending).limit ≤ sending.reader)
    × AreWithinLimits (after_block (encoder_before encoder sending) sending.fields) others

-- The octets of blocks, read in order from a table on, say the fields of the blocks, and leave a
-- table.
abbrev pub AreRead : Entries → List (List ℕ) → List SentBlock → Entries → Type 0
AreRead table [] [] after = after ≡ table
AreRead table [] (sending ∷ others) after = ⊥
AreRead table (octets ∷ more) [] after = ⊥
AreRead table (octets ∷ more) (sending ∷ others) after =
    (between : Entries) × Block table sending.reader octets sending.fields between
    × AreRead between more others after
