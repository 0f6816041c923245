-- Both sides as they were read, stretch after stretch.
-- contract: h2_follow::follow_input
use Rattle.std.specs.Prelude.{◌≡◌, ◌⊎◌, ℕ, ◌<◌, ◌≤◌, min, nat_le, Bool, true, false, if◌then◌else◌}
use Rattle.std.specs.Prelude.{List, [], ◌∷◌, ◌++◌, length, map, Option}
use Rattle.hpack.specs.Tables.{Entries}
use Rattle.h2_frame.specs.declared.code.Code.TheVariants.{CompressionError}
use Rattle.h2_frame.specs.Frames.{Frame, Headers, Continuation}
use Rattle.h2_block.specs.Grouping.{Begun}
use Rattle.h2_wire.specs.declared.fault.WireFault.{WireFault}
use Rattle.h2_wire.specs.Cutter.{saturated}
use Rattle.h2_wire.specs.Streams.{Limits, Frames, WireFaultAt}
use Rattle.h2_cli.specs.declared.status.Status.{Status}
use Rattle.h2_cli.specs.declared.status.Status.TheVariants.{Fault}
use Rattle.h2_show.specs.declared.options.Side.{Side}
use Rattle.h2_show.specs.declared.options.Side.TheVariants.{Client, Server}
use Rattle.h2_show.specs.Blocks.{FramesDecode}
use Rattle.h2_show.specs.Lines.{fault_line}
use Rattle.h2_show.specs.Report.{begins_with_preface}
use Rattle.h2_show.specs.declared.options.Style.TheVariants.{Plain}
use Rattle.h2_show.specs.ShownLines.{ShowLine}
use Rattle.h2_show.specs.Styles.{styled_text}
use Rattle.h2_show.specs.Shown.{Shows, ShowsFrames, preface_lines}
use Rattle.h2_follow.specs.FollowText.{OfSide}
use Rattle.h2_follow.specs.InForce.{Bound, SentFrame, frame_bound, in_force, table_bound}
use Rattle.h2_follow.specs.Unchecked.{noted_with, unchecked_line}

-- Octets of one side that were read together, up to the end of a frame at most.
pub record Stretch : Type 0 where
  -- the side that sent them
  pub side : Side
  -- the most octets of a payload, for a head whose ninth octet is among these
  pub limit : ℕ
  -- the greatest table, for a block that ends with these
  pub table : ℕ
  pub octets : List ℕ
  -- the frame that ends with them, if one does
  pub frames : List Frame
  -- what is printed before their lines
  pub notice : List ℕ
  -- what is printed of them
  pub lines : List ℕ

-- The stretches that were read so far, the newest first.
abbrev pub Stretches : Type 0
Stretches = List Stretch

-- all octets of the stretches, in the order in which they came
abbrev pub octets_read : Stretches → List ℕ
octets_read [] = []
octets_read (stretch ∷ log) = octets_read log ++ stretch.octets

-- all frames
abbrev pub frames_read : Stretches → List Frame
frames_read [] = []
frames_read (stretch ∷ log) = frames_read log ++ stretch.frames

-- all lines
abbrev pub lines_read : Stretches → List ℕ
lines_read [] = []
lines_read (stretch ∷ log) = lines_read log ++ stretch.lines

-- The limit of payloads as each octet was used, by its place, counted from 1.
-- rule: follow (own) What a side may send follows the other's SETTINGS, and its own ACK
abbrev pub limits_in : Stretches → Limits
limits_in [] = λ place. 16384
limits_in (stretch ∷ log) =
    λ place. if nat_le place (length (octets_read log)) then limits_in log place else stretch.limit

-- frames with the side that sent them
abbrev pub sent_by : Side → List Frame → List SentFrame
sent_by side frames = map (λ frame. (side, frame)) frames

-- the same after a stretch of the side that sent it, before which the side may send this
abbrev pub noted_by : (side sent : Side) → (noted : Bool) → Bound → Bool
noted_by Client Client noted bound = noted_with noted bound
noted_by Client Server noted bound = noted
noted_by Server Client noted bound = noted
noted_by Server Server noted bound = noted_with noted bound

-- the frames of both sides, the newest first
abbrev pub sent_in : Stretches → List SentFrame
sent_in [] = []
sent_in (stretch ∷ log) = sent_by stretch.side stretch.frames ++ sent_in log

-- with a stretch, where it is of the side
abbrev pub with_own : (side sent : Side) → Stretch → Stretches → Stretches
with_own Client Client stretch log = stretch ∷ log
with_own Client Server stretch log = log
with_own Server Client stretch log = log
with_own Server Server stretch log = stretch ∷ log

-- whether a line said by then that the side isn't checked in whole
-- rule: follow (own) Where SETTINGS allow a side more than is read, a line says so once
abbrev pub was_noted : Side → Stretches → Bool
was_noted side [] = false
was_noted side (stretch ∷ log) = noted_by side stretch.side (was_noted side log)
    (in_force side (sent_in log))

-- the stretches of a side
abbrev pub own_of : Side → Stretches → Stretches
own_of side [] = []
own_of side (stretch ∷ log) = with_own side stretch.side stretch (own_of side log)

-- whether a frame ends a block
abbrev pub ends_block : Frame → Bool
ends_block (Headers stream end whole fragment pad priority) = whole
ends_block (Continuation stream whole fragment) = whole
ends_block _ = false

-- whether the frame that ends with a stretch, if one does, ends a block
abbrev pub last_ends : List Frame → Bool
last_ends [] = false
last_ends (frame ∷ more) = ends_block frame

-- The frames of a side's stretches are those of its octets: all of them so far, or those before the
-- fault of the last stretch.
-- rule: follow (own) What a side may send follows the other's SETTINGS, and its own ACK
pub data SideIsRead (from : Side) (own : Stretches) : Type 0 where
  is_sound : (unparsed : List ℕ)
      → Frames (begins_with_preface from) (limits_in own) (octets_read own) (frames_read own) unparsed
      → SideIsRead from own
  is_at_fault : (place : ℕ) (fault : WireFault)
      → WireFaultAt (begins_with_preface from) (limits_in own) (octets_read own) (frames_read own) place
      fault
      → SideIsRead from own

-- The table after a stretch that ends a block is no greater than is in force.
-- rule: follow (own) A block after which the table is above what is in force is a fault
abbrev pub KeepsTable : Stretches → Entries → Type 0
KeepsTable [] table = Unit {0}
KeepsTable (stretch ∷ log) table = last_ends stretch.frames ≡ true → table.maximum ≤ stretch.table

-- The last of a side's stretches ends a block, and the table has then a greater maximum than is in
-- force: the update that lowers it is missing, or one raises it too far (RFC 7541, sections 4.2 and
-- 6.3). The frame isn't shown, but this fault, at its last octet.
-- rule: follow (own) A block after which the table is above what is in force is a fault
pub record HasTableFault (from : Side) (own : Stretches) : Type 0 where
  pub last : Stretch
  pub before : Stretches
  pub begun : Option Begun
  pub frames : List Frame
  pub unparsed : List ℕ
  pub table : Entries
  pub joined : own ≡ last ∷ before
  pub ends : last_ends last.frames ≡ true
  pub cut : Frames (begins_with_preface from) (limits_in own) (octets_read own) frames unparsed
  pub decoded : FramesDecode frames begun table
  pub above : last.table < table.maximum
  pub line : last.lines ≡ fault_line CompressionError (saturated (length (octets_read own)))

-- what `show` prints of octets within these limits, in the plain style
-- rule: follow (own) Each side has the lines that show prints of it, after its mark
abbrev pub ShowsPlain : (expects : Bool) → Limits → List ℕ → Status → (output : List ℕ) → Type 0
ShowsPlain expects limits octets status output =
    (lines : List ShowLine) × Shows expects limits octets status lines
    × (output ≡ styled_text Plain lines)

-- A fault ends the side: all that is printed of its octets, whatever follows, is printed.
-- rule: follow (own) A side's fault ends that side, while the other goes on
pub data SideIsOver (from : Side) (own : Stretches) : Type 0 where
  by_show : ((more : List ℕ) → ShowsPlain (begins_with_preface from) (limits_in own)
      (octets_read own ++ more) Fault (lines_read own))
      → SideIsOver from own
  by_table : HasTableFault from own → SideIsOver from own

-- The side goes on: its lines are those of the frames that are complete, of which the preface's may
-- come first.
-- rule: follow (own) A line stands where the last octet of its frame came
pub record SideIsShown (from : Side) (own : Stretches) : Type 0 where
  pub frames : List Frame
  pub unparsed : List ℕ
  pub begun : Option Begun
  pub shown : List ShowLine
  pub table : Entries
  pub cut : Frames (begins_with_preface from) (limits_in own) (octets_read own) frames unparsed
  pub shows : ShowsFrames frames begun shown
  pub all : lines_read own
      ≡ styled_text Plain (preface_lines (begins_with_preface from) (octets_read own) ++ shown)
  pub decoded : FramesDecode frames begun table
  pub keeps : KeepsTable own table

-- The lines of a side are those of its octets so far.
-- rule: follow (own) A line stands where the last octet of its frame came
abbrev pub IsSoFar : (from : Side) → (own : Stretches) → Type 0
IsSoFar from own = SideIsRead from own × (SideIsShown from own ⊎ SideIsOver from own)

-- The limits of a stretch are those in force for its side after the stretches before it: of
-- payloads, of which more than 1,048,576 octets are never read, and of tables. The first stretch for
-- which they are above what is read has a line that says so.
-- rule: follow (own) What a side may send follows the other's SETTINGS, and its own ACK
-- rule: follow (own) Where SETTINGS allow a side more than is read, a line says so once
abbrev pub HasLimits : (least : ℕ) → Stretch → (before : Stretches) → Type 0
HasLimits least stretch before =
    (stretch.limit ≡ min (frame_bound least (in_force stretch.side (sent_in before))) 1048576)
    × (stretch.table ≡ table_bound (in_force stretch.side (sent_in before)))
    × (stretch.notice ≡ unchecked_line (was_noted stretch.side before)
    (in_force stretch.side (sent_in before)))

-- After each stretch the lines of its side are those of its octets so far, within the limits in force.
-- rule: follow (own) Each side has the lines that show prints of it, after its mark
-- rule: follow (own) A line stands where the last octet of its frame came
abbrev pub AreFollowed : (least : ℕ) → Stretches → Type 0
AreFollowed least [] = Unit {0}
AreFollowed least (stretch ∷ log) =
    HasLimits least stretch log × IsSoFar stretch.side (own_of stretch.side (stretch ∷ log))
    × AreFollowed least log

-- all of the stretches are of the side
abbrev pub AreOf : Side → Stretches → Type 0
AreOf side [] = Unit {0}
AreOf side (stretch ∷ log) = (stretch.side ≡ side) × AreOf side log

-- A piece was read by these stretches, after others: all of its octets, or those up to a fault
-- that ends its side.
-- rule: follow (own) A side's fault ends that side, while the other goes on
pub record IsPiece (side : Side) (octets : List ℕ) (newer older : Stretches) : Type 0 where
  pub of : AreOf side newer
  pub after : List ℕ
  pub joined : octets ≡ octets_read newer ++ after
  pub ended : (after ≡ []) ⊎ SideIsOver side (own_of side (newer ++ older))

-- The stretches are those of the pieces, in their order.
-- rule: follow (own) A line stands where the last octet of its frame came
pub data ArePieces : (pieces : List OfSide) → (log : Stretches) → Type 0 where
  no_pieces : (pieces : List OfSide) (log : Stretches) → pieces ≡ [] → log ≡ [] → ArePieces pieces log
  with_piece : (pieces : List OfSide) (log : Stretches) (before : List OfSide) (piece : OfSide)
      (newer older : Stretches) → pieces ≡ before ++ piece ∷ [] → log ≡ newer ++ older
      → ArePieces before older → IsPiece piece.0 piece.1 newer older → ArePieces pieces log
