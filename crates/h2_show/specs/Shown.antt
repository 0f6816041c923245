-- What `h2 show` prints of a stream, and the status with it.
use Rattle.std.specs.Prelude.{◌≡◌, ◌≢◌, ℕ, ◌≤◌, ◌&&◌, bytes_eq, Bool, if◌then◌else◌, List, []}
use Rattle.std.specs.Prelude.{◌∷◌, ◌++◌, length, take, map, Option, Some, None, Ok, MatchBool}
use Rattle.hex.specs.Hex.{decode_of}
use Rattle.hpack.specs.declared.types.field.Field.{Field}
use Rattle.hpack.specs.Tables.{Entries}
use Rattle.hpack.specs.Blocks.{Block}
use Rattle.h2_frame.specs.declared.code.Code.{Code}
use Rattle.h2_frame.specs.Frames.{Frame}
use Rattle.h2_wire.specs.declared.fault.WireFault.{WireFault}
use Rattle.h2_wire.specs.Cutter.{saturated}
use Rattle.h2_wire.specs.Faults.{wire_fault_code}
use Rattle.h2_wire.specs.Streams.{Limits, Frames, WireFaultAt, expected_preface}
use Rattle.h2_block.specs.Grouping.{Item, alone, block, IsItem, IsLeft, Begun}
use Rattle.h2_show.specs.declared.options.ShowOptions.{ShowOptions}
use Rattle.h2_cli.specs.declared.status.Status.{Status}
use Rattle.h2_cli.specs.declared.status.Status.TheVariants.{Good, Fault}
use Rattle.h2_show.specs.Blocks.{EndsWithBlockError, first_table, show_table_limit}
use Rattle.h2_cli.specs.Hexadecimal.{without_blanks}
use Rattle.h2_show.specs.Report.{begins_with_preface, limits_of}
use Rattle.h2_show.specs.ShownLines.{ShowLine, preface_shown, frame_shown, fault_shown, rest_shown}
use Rattle.h2_show.specs.ShownLines.{unfinished_shown, listing_of}
use Rattle.h2_show.specs.Styles.{styled_text}

-- the lines of frames that end no block
-- rule: show (own) An input has one output: preface, frames, then how it ends
abbrev pub frame_lines : List Frame → List ShowLine
frame_lines frames = map (λ frame. frame_shown frame None) frames

-- These lines show the frames of the items: each frame has its line, and that of the frame that ends
-- a block has the block's fields, decoded with the table as the blocks before have left it.
-- rule: show (own) An input has one output: preface, frames, then how it ends
abbrev pub AreShown : (table : Entries) → List Item → List Frame → (after : Entries)
    → (lines : List ShowLine) → Type 0
AreShown table [] frames after lines = (frames ≡ []) × (after ≡ table) × (lines ≡ [])
AreShown table (alone frame ∷ items) frames after lines =
    (others : List Frame) × (rest : List ShowLine) × (frames ≡ frame ∷ others)
    × IsItem (alone frame) (frame ∷ []) × (lines ≡ frame_shown frame None ∷ rest)
    × AreShown table items others after rest
AreShown table (block stream end octets ∷ items) frames after lines =
    (first : List Frame) × (last : Frame) × (others : List Frame) × (rest : List ShowLine)
    × (fields : List Field) × (next : Entries) × (frames ≡ (first ++ last ∷ []) ++ others)
    × IsItem (block stream end octets) (first ++ last ∷ [])
    × Block table show_table_limit octets fields next
    × (lines ≡ frame_lines first ++ frame_shown last (Some (listing_of fields)) ∷ rest)
    × AreShown next items others after rest

-- These lines show the frames so far, the last of which may have begun a block that isn't complete.
-- rule: show (own) An input has one output: preface, frames, then how it ends
pub record ShowsFrames (frames : List Frame) (begun : Option Begun) (lines : List ShowLine) : Type 0
  where
    pub items : List Item
    pub complete : List Frame
    pub left : List Frame
    pub table : Entries
    pub first : List ShowLine
    pub joined : frames ≡ complete ++ left
    pub shown : AreShown first_table items complete table first
    pub unfinished : IsLeft begun left
    pub all : lines ≡ first ++ frame_lines left

-- The line of the preface comes first, where it is expected and the stream begins with it.
-- rule: show (own) An input has one output: preface, frames, then how it ends
abbrev pub preface_lines : (expects : Bool) → (stream : List ℕ)
    → List ShowLine
preface_lines expects stream =
    if expects && bytes_eq (take 24 stream) (expected_preface expects) then preface_shown ∷ []
    else []

-- The whole output for a stream, and the status: complete frames to its end, and complete blocks;
-- an end inside the preface, a frame or a block; or an octet at fault, or a frame that is, after
-- the frames before it.
-- rule: show (own) An input has one output: preface, frames, then how it ends
pub data Shows (expects : Bool) (limits : Limits) (stream : List ℕ) (status : Status)
    (output : List ShowLine) : Type 0 where
  is_complete : (frames : List Frame) (lines : List ShowLine) → Frames expects limits stream frames []
      → ShowsFrames frames None lines → status ≡ Good
      → output ≡ preface_lines expects stream ++ lines → Shows expects limits stream status output
  ends_inside_frame : (frames : List Frame) (unparsed : List ℕ) (begun : Option Begun)
      (lines : List ShowLine) → Frames expects limits stream frames unparsed → unparsed ≢ []
      → ShowsFrames frames begun lines → status ≡ Fault
      → output ≡ preface_lines expects stream ++ lines ++ rest_shown (length unparsed) ∷ []
      → Shows expects limits stream status output
  ends_inside_block : (frames : List Frame) (begun : Begun) (lines : List ShowLine)
      → Frames expects limits stream frames [] → ShowsFrames frames (Some begun) lines
      → status ≡ Fault → output ≡ preface_lines expects stream ++ lines ++ unfinished_shown ∷ []
      → Shows expects limits stream status output
  has_wire_fault : (frames : List Frame) (begun : Option Begun) (place : ℕ) (fault : WireFault)
      (lines : List ShowLine) → WireFaultAt expects limits stream frames place fault
      → ShowsFrames frames begun lines → status ≡ Fault
      → output ≡ preface_lines expects stream ++ lines
      ++ fault_shown (wire_fault_code fault) (saturated place) ∷ []
      → Shows expects limits stream status output
  has_block_error : (frames : List Frame) (last : Frame) (begun : Option Begun) (place : ℕ)
      (code : Code) (lines : List ShowLine) → place ≤ length stream
      → Frames expects limits (take place stream) (frames ++ last ∷ []) []
      → EndsWithBlockError (frames ++ last ∷ []) code → ShowsFrames frames begun lines
      → status ≡ Fault
      → output ≡ preface_lines expects stream ++ lines ++ fault_shown code (saturated place) ∷ []
      → Shows expects limits stream status output

-- what `show` prints of the octets that an end sent: the lines in the style that is asked for
-- rule: show (own) An input has one output: preface, frames, then how it ends
abbrev pub ShowsOctets : ShowOptions → List ℕ → Status → (output : List ℕ) → Type 0
ShowsOctets options octets status output =
    (lines : List ShowLine)
    × Shows (begins_with_preface options.from) (limits_of options) octets status lines
    × (output ≡ styled_text options.style lines)

-- of an input: its octets, or those that it gives in hexadecimal
-- rule: show (own) An input has one output: preface, frames, then how it ends
abbrev pub ShowsInput : ShowOptions → List ℕ → Status → (output : List ℕ) → Type 0
ShowsInput options given status output =
    MatchBool options.hex
    ((octets : List ℕ) × (decode_of (without_blanks given) ≡ Ok octets)
    × ShowsOctets options octets status output)
    (ShowsOctets options given status output)
