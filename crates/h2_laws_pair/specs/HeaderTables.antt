-- The header tables of two ends: the field blocks under way decode in order, to the lists that the
-- writer was given (RFC 9113, section 4.3; RFC 7541, section 2.3.2). Lists have the newest first.
use Rattle.std.specs.Prelude.{◌≡◌, ℕ, ◌+◌, List, [], ◌∷◌, ◌++◌, length}
use Rattle.hpack.specs.declared.types.field.Field.{Field}
use Rattle.hpack.specs.Tables.{Entries}
use Rattle.hpack.specs.Blocks.{Block}
use Rattle.h2_block.specs.Grouping.{Item, alone, block}
use Rattle.h2_spec_log.specs.Items.{total}
use Rattle.h2_spec_log.specs.Settings.{own_value, one_ack}
use Rattle.h2_spec_log.specs.Log.{Log, acked}
use Rattle.h2_laws_end.specs.Sendings.{lists_accepted}

-- how many of the items are field blocks
unfoldable pub block_count : List Item → ℕ
block_count [] = 0
block_count (block stream end octets ∷ items) = 1 + block_count items
block_count (alone frame ∷ items) = block_count items

-- The items come one after another, and each field block among them decodes to the next of the
-- lists, at the table after the blocks before it; from the first table on to the last. `sent`: what
-- their reader has sent. `count`: how many of its SETTINGS were acknowledged before these items;
-- each acknowledgment among them puts the next table limit in force.
abbrev pub DecodeInOrder : (sent : List Item) (count : ℕ) (first : Entries) → List Item
    → List (List Field) → (last : Entries) → Type 0
DecodeInOrder sent count first [] lists last = (lists ≡ []) × (last ≡ first)
DecodeInOrder sent count first (alone frame ∷ items) lists last =
    DecodeInOrder sent count first items lists last
DecodeInOrder sent count first (block stream end octets ∷ items) lists last =
    (fields : List Field) × (older : List (List Field)) × (between : Entries)
    × (lists ≡ fields ∷ older) × DecodeInOrder sent count first items older between
    × Block between (own_value 1 4096 (count + total one_ack items) sent) octets fields last

-- The lists that the writer was given are those of the blocks that the reader has read and of those
-- under way. The reader's table, after the blocks under way, is the writer's, and each of them
-- decodes at its place to its list, whatever limits change meanwhile.
-- rule (law): joined (own) The header tables of joined ends agree, no window is lost
pub record HeaderTablesInStep (writer reader : Log) (way : List Item) : Type 0 where
  pub read : List (List Field)
  pub under_way : List (List Field)
  pub accepted : lists_accepted writer.calls ≡ under_way ++ read
  pub count : length read ≡ block_count reader.received
  pub decode : DecodeInOrder reader.sent (acked reader) reader.table way under_way
      writer.encoder.table
