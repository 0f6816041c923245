-- What the status of `h2 show` reports of its input.
use Rattle.std.specs.Prelude.{◌≡◌, ◌≢◌, ℕ, ◌≤◌, Bool, true, false, List, [], length, take}
use Rattle.std.specs.Prelude.{Option, Ok, Some, None, MatchBool}
use Rattle.hex.specs.Hex.{decode_of}
use Rattle.hpack.specs.Tables.{Entries}
use Rattle.h2_frame.specs.declared.code.Code.{Code}
use Rattle.h2_frame.specs.Frames.{Frame}
use Rattle.h2_wire.specs.declared.fault.WireFault.{WireFault}
use Rattle.h2_wire.specs.Streams.{Limits, Frames, WireFaultAt}
use Rattle.h2_block.specs.Grouping.{Begun}
use Rattle.h2_show.specs.declared.options.ShowOptions.{ShowOptions}
use Rattle.h2_show.specs.declared.options.Side.{Side}
use Rattle.h2_show.specs.declared.options.Side.TheVariants.{Client, Server}
use Rattle.h2_cli.specs.declared.status.Status.{Status}
use Rattle.h2_cli.specs.declared.status.Status.TheVariants.{Good, Fault, Usage, Device, Memory}
use Rattle.h2_show.specs.Blocks.{FramesDecode, EndsWithBlockError}
use Rattle.h2_cli.specs.Hexadecimal.{without_blanks}

-- whether an end begins with the preface (RFC 9113, section 3.4)
-- rule: show (own) The words choose the end and hexadecimal
abbrev pub begins_with_preface : Side → Bool
begins_with_preface Client = true
begins_with_preface Server = false

-- The stream is complete frames to its end, or nothing at all; they group to complete blocks, all
-- of which decode.
-- rule: show (own) The status is 0 only where the input is good to its end
pub record IsComplete (expects : Bool) (limits : Limits) (stream : List ℕ) : Type 0 where
  pub frames : List Frame
  pub table : Entries
  pub reading : Frames expects limits stream frames []
  pub decoded : FramesDecode frames None table

-- The stream ends inside the preface or inside a frame, after frames whose blocks decode.
-- rule: show (own) The status is 1 only where the stream is cut off or at fault
pub record EndsInsideFrame (expects : Bool) (limits : Limits) (stream : List ℕ) : Type 0 where
  pub frames : List Frame
  pub unparsed : List ℕ
  pub begun : Option Begun
  pub table : Entries
  pub reading : Frames expects limits stream frames unparsed
  pub some : unparsed ≢ []
  pub decoded : FramesDecode frames begun table

-- The stream is complete frames to its end, whose blocks decode, and a block has begun that isn't
-- complete.
-- rule: show (own) The status is 1 only where the stream is cut off or at fault
pub record EndsInsideBlock (expects : Bool) (limits : Limits) (stream : List ℕ) : Type 0 where
  pub frames : List Frame
  pub begun : Begun
  pub table : Entries
  pub reading : Frames expects limits stream frames []
  pub decoded : FramesDecode frames (Some begun) table

-- The octet of the stream at this place is at fault, after frames whose blocks decode.
-- rule: show (own) The status is 1 only where the stream is cut off or at fault
pub record HasWireFaultAt (expects : Bool) (limits : Limits) (stream : List ℕ) (place : ℕ)
    (fault : WireFault) : Type 0 where
  pub frames : List Frame
  pub begun : Option Begun
  pub table : Entries
  pub at : WireFaultAt expects limits stream frames place fault
  pub decoded : FramesDecode frames begun table

-- The octet of the stream at this place ends a frame that doesn't group with those preceding it,
-- or that ends a block that doesn't decode.
-- rule: show (own) The status is 1 only where the stream is cut off or at fault
pub record HasBlockErrorAt (expects : Bool) (limits : Limits) (stream : List ℕ) (place : ℕ)
    (code : Code) : Type 0 where
  pub frames : List Frame
  pub within : place ≤ length stream
  pub reading : Frames expects limits (take place stream) frames []
  pub error : EndsWithBlockError frames code

-- The stream is at fault, or ends inside something.
-- rule: show (own) The status is 1 only where the stream is cut off or at fault
pub data IsAtFault (expects : Bool) (limits : Limits) (stream : List ℕ) : Type 0 where
  inside_frame : EndsInsideFrame expects limits stream → IsAtFault expects limits stream
  inside_block : EndsInsideBlock expects limits stream → IsAtFault expects limits stream
  wire_fault : (place : ℕ) (fault : WireFault) → HasWireFaultAt expects limits stream place fault
      → IsAtFault expects limits stream
  block_error : (place : ℕ) (code : Code) → HasBlockErrorAt expects limits stream place code
      → IsAtFault expects limits stream

-- what the status reports of a stream
-- rule: show (own) The status is 0 only where the input is good to its end
abbrev pub StatusReports : Bool → Limits → List ℕ → Status → Type 0
StatusReports expects limits stream Good = IsComplete expects limits stream
StatusReports expects limits stream Fault = IsAtFault expects limits stream
StatusReports expects limits stream Usage = ⊥
StatusReports expects limits stream Device = ⊥
StatusReports expects limits stream Memory = ⊥

-- the limit of payloads, which is the same for every head, whatever SETTINGS say
-- rule: show (own) The words choose the limit of payloads
abbrev pub limits_of : ShowOptions → Limits
limits_of options place = options.max_frame

-- What the status reports of the octets that the end sent.
-- rule: show (own) The status is 0 only where the input is good to its end
abbrev pub StatusReportsOctets : ShowOptions → List ℕ → Status → Type 0
StatusReportsOctets options octets status =
    StatusReports (begins_with_preface options.from) (limits_of options) octets status

-- What the status reports of text that gives the octets in hexadecimal.
-- rule: show (own) The status is 0 only where the input is good to its end
abbrev pub StatusReportsText : ShowOptions → List ℕ → Status → Type 0
StatusReportsText options text status =
    (octets : List ℕ) × (decode_of (without_blanks text) ≡ Ok octets)
    × StatusReportsOctets options octets status

-- What the status reports of the input.
-- rule: show (own) The status is 0 only where the input is good to its end
abbrev pub StatusReportsInput : ShowOptions → List ℕ → Status → Type 0
StatusReportsInput options given status =
    MatchBool options.hex
    (StatusReportsText options given status)
    (StatusReportsOctets options given status)
