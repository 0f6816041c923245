-- The field blocks among the frames of one end, decoded one after another.
use Rattle.std.specs.Prelude.{◌≡◌, ◌⊎◌, ℕ, Bool, List, [], ◌∷◌, ◌++◌, Option, None, false}
use Rattle.h2_frame.specs.declared.code.Code.{Code}
use Rattle.h2_frame.specs.declared.code.Code.TheVariants.{CompressionError}
use Rattle.h2_frame.specs.Frames.{Frame}
use Rattle.h2_block.specs.declared.fault.BlockFault.{BlockFault}
use Rattle.h2_block.specs.declared.fault.BlockFault.TheVariants as grouping
use Rattle.h2_block.specs.Grouping.{Item, alone, block, Begun, Groups, GroupingFaultAt}
use Rattle.h2_block.specs.Gather.{block_fault_code}
use Rattle.hpack.specs.declared.types.fault.Fault.{Fault as DecoderFault}
use Rattle.hpack.specs.declared.types.fault.Fault.TheVariants as decoding
use Rattle.hpack.specs.declared.types.field.Field.{Field}
use Rattle.hpack.specs.Tables.{Entries}
use Rattle.hpack.specs.Blocks.{Block}
use Rattle.hpack.specs.Lists.{DecoderState, NoBlock, empty_table}
use Rattle.h2_show.specs.declared.blocks.Blocks.{Blocks}
use Rattle.h2_show.specs.declared.blocks.BlockError.{BlockError}
use Rattle.h2_show.specs.declared.blocks.BlockError.TheVariants.{Fault, Memory}

-- the greatest table that an end may set (a choice of `show`, which sees no SETTINGS of the other)
abbrev pub show_table_limit : ℕ
show_table_limit = 65536

-- the table before the first block (RFC 9113, section 6.5.2)
abbrev pub first_table : Entries
first_table = empty_table 4096

-- The blocks among the items decode, one after another, and leave the table `after`.
abbrev pub ItemsDecode : Entries → List Item → Entries → Type 0
ItemsDecode table [] after = after ≡ table
ItemsDecode table (alone frame ∷ items) after = ItemsDecode table items after
ItemsDecode table (block stream end octets ∷ items) after =
    (fields : List Field) × (next : Entries)
    × Block table show_table_limit octets fields next
    × ItemsDecode next items after

-- The frames group, all their blocks decode, and `begun` has begun after them.
pub record FramesDecode (frames : List Frame) (begun : Option Begun) (table : Entries) : Type 0
  where
    pub items : List Item
    pub grouped : Groups frames items begun
    pub decoded : ItemsDecode first_table items table

-- The last of the frames doesn't group; those preceding it group, and their blocks decode.
-- rule: 6.10 Inside a block any frame but its CONTINUATION is PROTOCOL_ERROR
pub record IsMisgrouped (frames : List Frame) (code : Code) : Type 0 where
  pub items : List Item
  pub table : Entries
  pub fault : BlockFault
  pub at : GroupingFaultAt frames items fault
  pub decoded : ItemsDecode first_table items table
  pub coded : code ≡ block_fault_code fault

-- The last of the frames ends a block that doesn't decode; all blocks preceding it decode.
-- rule: 4.3 A block that does not decode is COMPRESSION_ERROR, of the connection
pub record IsUndecodable (frames : List Frame) (code : Code) : Type 0 where
  pub items : List Item
  pub table : Entries
  pub stream : ℕ
  pub end : Bool
  pub octets : List ℕ
  pub grouped : Groups frames (items ++ block stream end octets ∷ []) None
  pub decoded : ItemsDecode first_table items table
  pub none : NoBlock table show_table_limit octets
  pub coded : code ≡ CompressionError

-- The last of the frames is at fault, with a code.
-- rule: show (own) The status is 1 only where the stream is cut off or at fault
abbrev pub EndsWithBlockError : List Frame → Code → Type 0
EndsWithBlockError frames code = IsMisgrouped frames code ⊎ IsUndecodable frames code

-- a gatherer's fault, as an error of the blocks
-- rule: show (own) The status is 1 only where the stream is cut off or at fault
abbrev pub error_of_grouping : BlockFault → BlockError
error_of_grouping grouping.Interrupted = Fault (block_fault_code grouping.Interrupted)
error_of_grouping grouping.Stray = Fault (block_fault_code grouping.Stray)
error_of_grouping grouping.TooLong = Fault (block_fault_code grouping.TooLong)
error_of_grouping grouping.Memory = Memory

-- a decoder's fault, as an error of the blocks
-- rule: 4.3 A block that does not decode is COMPRESSION_ERROR, of the connection
abbrev pub error_of_decoding : DecoderFault → BlockError
error_of_decoding decoding.Compression = Fault CompressionError
error_of_decoding decoding.Failed = Fault CompressionError
error_of_decoding decoding.Memory = Memory

-- what an error of decoding a block says of its octets; out of memory says nothing
abbrev pub DecodingErrorReports : DecoderState → List ℕ → BlockError → Type 0
DecodingErrorReports decoder octets (Fault code) =
    NoBlock decoder.table decoder.limit octets × (code ≡ CompressionError)
DecodingErrorReports decoder octets Memory = Unit {0}

-- The blocks represent the frames so far, which group, and whose blocks decode.
pub record BlocksRepresent (blocks : Blocks) (frames : List Frame) : Type 0 where
  pub grouping : blocks.gather.fault ≡ None
  pub decoding : blocks.decoder.failed ≡ false
  pub limit : blocks.decoder.limit ≡ show_table_limit
  pub decoded : FramesDecode frames blocks.gather.begun blocks.decoder.table

-- what an error of the blocks says of the frames so far; out of memory says nothing
abbrev pub BlockErrorReports : List Frame → BlockError → Type 0
BlockErrorReports frames (Fault code) = EndsWithBlockError frames code
BlockErrorReports frames Memory = Unit {0}
