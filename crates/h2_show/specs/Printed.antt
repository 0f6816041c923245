-- What a viewer has printed so far, and what a piece, an error and the end add to it.
use Rattle.std.specs.Prelude.{◌≡◌, ℕ, ◌==◌, not, Bool, false, if◌then◌else◌, List, [], ◌++◌}
use Rattle.std.specs.Prelude.{◌∷◌, Option, None, Ok}
use Rattle.hex.specs.Hex.{decode_of}
use Rattle.hpack.specs.declared.types.field.Decoded.{Decoded}
use Rattle.hpack.specs.declared.types.field.Field.{Field}
use Rattle.h2_frame.specs.declared.code.Code.TheVariants.{ProtocolError}
use Rattle.h2_frame.specs.Frames.{Frame}
use Rattle.h2_frame.specs.Heads.{head_fault_code}
use Rattle.h2_wire.specs.declared.fault.WireFault.TheVariants as faults
use Rattle.h2_wire.specs.Cutter.{CutterState, CutterRepresents}
use Rattle.h2_wire.specs.Streams.{Limits}
use Rattle.h2_block.specs.Grouping.{Item, IsLeft}
use Rattle.h2_show.specs.declared.blocks.Blocks.{Blocks}
use Rattle.h2_show.specs.declared.blocks.BlockError.TheVariants as errors
use Rattle.h2_show.specs.declared.options.ShowOptions.{ShowOptions}
use Rattle.h2_cli.specs.declared.status.Status.{Status}
use Rattle.h2_cli.specs.declared.status.Status.TheVariants.{Fault}
use Rattle.h2_show.specs.declared.viewer.ShowError.{ShowError}
use Rattle.h2_show.specs.declared.viewer.ShowError.TheVariants.{Wire, Block, Output}
use Rattle.h2_show.specs.Report.{begins_with_preface, limits_of}
use Rattle.h2_show.specs.Blocks.{first_table, show_table_limit}
use Rattle.h2_show.specs.ShownLines.{ShowLine, preface_shown, fault_shown, rest_shown}
use Rattle.h2_show.specs.ShownLines.{unfinished_shown}
use Rattle.h2_show.specs.Styles.{places_past, styled_text}
use Rattle.h2_show.specs.declared.viewer.Viewer.{Viewer}
use Rattle.h2_cli.specs.Hexadecimal.{without_blanks}
use Rattle.h2_show.specs.Shown.{AreShown, frame_lines, preface_lines, Shows, ShowsOctets}

-- The blocks represent the frames so far, which these lines show.
pub record BlocksShow (blocks : Blocks) (frames : List Frame) (lines : List ShowLine) : Type 0
  where
    pub grouping : blocks.gather.fault ≡ None
    pub decoding : blocks.decoder.failed ≡ false
    pub limit : blocks.decoder.limit ≡ show_table_limit
    pub items : List Item
    pub complete : List Frame
    pub left : List Frame
    pub first : List ShowLine
    pub joined : frames ≡ complete ++ left
    pub shown : AreShown first_table items complete blocks.decoder.table first
    pub unfinished : IsLeft blocks.gather.begun left
    pub all : lines ≡ first ++ frame_lines left

-- the line of the preface, where it is still to be printed
abbrev pub due_line : Bool → List ShowLine
due_line due = if due then preface_shown ∷ [] else []

-- The viewer represents the stream so far, and this is the whole output for it; the preface's line
-- is still to be printed where the preface isn't complete.
pub record ViewerShows (cutter : CutterState) (blocks : Blocks) (due : Bool) (expects : Bool)
    (limits : Limits) (stream : List ℕ) (output : List ShowLine) : Type 0 where
  pub frames : List Frame
  pub lines : List ShowLine
  pub cut : CutterRepresents cutter expects limits stream frames
  pub blocks_show : BlocksShow blocks frames lines
  pub is_due : due ≡ cutter.in_preface
  pub all : output ≡ preface_lines expects stream ++ lines

-- All octets were used, and this was printed: if the viewer had shown `stream`, it has now shown
-- `stream ++ octets`.
abbrev pub ViewerPrints : CutterState → Blocks → (due : Bool) → List ℕ → CutterState → Blocks
    → (new_due : Bool) → (printed : List ShowLine) → Type 0
ViewerPrints cutter blocks due octets new_cutter new_blocks new_due printed =
    (expects : Bool) (limits : Limits) (stream : List ℕ) (output : List ShowLine)
    → ViewerShows cutter blocks due expects limits stream output
    → ViewerShows new_cutter new_blocks new_due expects limits (stream ++ octets)
    (output ++ printed)

-- what is printed of an error: the line of the preface where the octets before the fault complete
-- it, and the line of the fault
abbrev pub error_lines : ShowError → (place : ℕ) → (due : Bool) → List ShowLine
error_lines (Wire faults.BadPreface) place due = fault_shown ProtocolError place ∷ []
error_lines (Wire (faults.HeadFault fault)) place due =
    due_line due ++ fault_shown (head_fault_code fault) place ∷ []
error_lines (Wire (faults.PayloadFault code)) place due = due_line due ++ fault_shown code place ∷ []
error_lines (Wire faults.Memory) place due = []
error_lines (Block (errors.Fault code)) place due = due_line due ++ fault_shown code place ∷ []
error_lines (Block errors.Memory) place due = []
error_lines (Output error) place due = []

-- what is printed at the end of the input, by how many octets are left and whether a block has
-- begun
abbrev pub end_lines : (count : ℕ) → (inside : Bool) → List ShowLine
end_lines count inside =
    if not (count == 0) then rest_shown count ∷ []
    else if inside then unfinished_shown ∷ [] else []

-- If the viewer had shown `stream`, then with what was printed and the lines of the error all of
-- `stream ++ octets` is shown, whatever follows it.
abbrev pub ViewerFailsWith : CutterState → Blocks → (due : Bool) → List ℕ → ShowError → CutterState
    → (new_due : Bool) → (printed : List ShowLine) → Type 0
ViewerFailsWith cutter blocks due octets error new_cutter new_due printed =
    (expects : Bool) (limits : Limits) (stream more : List ℕ) (output : List ShowLine)
    → ViewerShows cutter blocks due expects limits stream output
    → Shows expects limits ((stream ++ octets) ++ more) Fault
    ((output ++ printed) ++ error_lines error new_cutter.place new_due)

-- If the viewer had shown `stream`, all of `stream ++ octets` is shown with what was printed.
abbrev pub ShowsAfter : CutterState → Blocks → (due : Bool) → List ℕ → Status
    → (printed : List ShowLine) → Type 0
ShowsAfter cutter blocks due octets status printed =
    (expects : Bool) (limits : Limits) (stream : List ℕ) (output : List ShowLine)
    → ViewerShows cutter blocks due expects limits stream output
    → Shows expects limits (stream ++ octets) status (output ++ printed)

-- The viewer has shown the octets so far under these options, in this text.
pub record ViewerHasPrinted (viewer : Viewer) (options : ShowOptions) (stream text : List ℕ) : Type 0
  where
    pub lines : List ShowLine
    pub shows : ViewerShows viewer.cutter viewer.blocks viewer.printer.is_due
        (begins_with_preface options.from) (limits_of options) stream lines
    pub styled : viewer.printer.style ≡ options.style
    pub placed : viewer.printer.next ≡ places_past options.style 1 lines
    pub all : text ≡ styled_text options.style lines

-- what `show` prints of text that gives the octets in hexadecimal
abbrev pub ShowsText : ShowOptions → List ℕ → Status → (printed : List ℕ) → Type 0
ShowsText options text status printed =
    (octets : List ℕ) × (decode_of (without_blanks text) ≡ Ok octets)
    × ShowsOctets options octets status printed
