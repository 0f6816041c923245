-- What both sides have printed so far, by the state of their viewers.
use Rattle.std.specs.Prelude.{◌≡◌, ◌≢◌, ◌⊎◌, ℕ, ◌<◌, ◌≤◌, Bool, true, List, [], ◌∷◌, ◌++◌}
use Rattle.std.specs.Prelude.{length, take, min, Option, Some, None, MatchBool}
use Rattle.h2_frame.specs.Frames.{Frame}
use Rattle.h2_frame.specs.declared.code.Code.TheVariants.{CompressionError}
use Rattle.h2_wire.specs.Cutter.{CutterContinues, CutterRepresents, CutterState}
use Rattle.h2_cli.specs.declared.status.Status.{Status}
use Rattle.h2_show.specs.declared.options.Side.{Side}
use Rattle.h2_show.specs.declared.options.Side.TheVariants.{Client, Server}
use Rattle.h2_show.specs.declared.options.Style.TheVariants.{Plain}
use Rattle.h2_show.specs.declared.viewer.ShowError.{ShowError}
use Rattle.h2_show.specs.declared.viewer.Viewer.{Viewer}
use Rattle.h2_show.specs.Lines.{fault_line}
use Rattle.h2_show.specs.Printed.{ViewerFailsWith, ViewerPrints, ViewerShows, error_lines}
use Rattle.h2_show.specs.Report.{begins_with_preface}
use Rattle.h2_show.specs.ShownLines.{ShowLine}
use Rattle.h2_show.specs.Styles.{styled_text, text_from}
use Rattle.h2_follow.specs.declared.in_force.InForce.{InForce}
use Rattle.h2_follow.specs.declared.text.Node.{Node}
use Rattle.h2_follow.specs.declared.one_side.OneSide.{OneSide}
use Rattle.h2_follow.specs.declared.one_side.Scanned.{Scanned}
use Rattle.h2_follow.specs.declared.follower.Follower.{Follower}
use Rattle.h2_follow.specs.FollowText.{BeginsWithLines, Line, Piece, client_by}
use Rattle.h2_follow.specs.FollowText.{client_of, sided}
use Rattle.h2_follow.specs.Follows.{SideEnds, marked_of, output_of}
use Rattle.h2_follow.specs.InForce.{Bound, after_others, after_own, bound_of, frame_bound}
use Rattle.h2_follow.specs.InForce.{in_force}
use Rattle.h2_follow.specs.InForce.{table_bound}
use Rattle.h2_follow.specs.Stretches.{AreOf, ArePieces, AreFollowed, SideIsOver}
use Rattle.h2_follow.specs.Stretches.{SideIsRead, KeepsTable, Stretches}
use Rattle.h2_follow.specs.Stretches.{last_ends}
use Rattle.h2_follow.specs.Stretches.{Stretch, frames_read, sent_in, limits_in, lines_read}
use Rattle.h2_follow.specs.Stretches.{octets_read, own_of, was_noted}
use Rattle.h2_follow.specs.Unchecked.{noted_with, unchecked_line}

-- No fault has ended the side, and its viewer and its scanner represent its octets so far.
pub record SideGoesOn (one : OneSide) (from : Side) (own : Stretches) : Type 0 where
  pub shown : List ShowLine
  pub viewer : ViewerShows one.viewer.cutter one.viewer.blocks one.viewer.printer.is_due
      (begins_with_preface from) (limits_in own) (octets_read own) shown
  pub plain : one.viewer.printer.style ≡ Plain
  pub text : lines_read own ≡ styled_text Plain shown
  pub scanner : CutterRepresents one.scanner (begins_with_preface from) (limits_in own)
      (octets_read own) (frames_read own)
  pub keeps : KeepsTable own one.viewer.blocks.decoder.table

-- The lines of these stretches are all that is printed of the side's octets so far; after a fault,
-- whatever follows.
abbrev pub SideShows : OneSide → (from : Side) → (own : Stretches) → Type 0
SideShows one from own =
    MatchBool one.is_over (SideIsOver from own × SideIsRead from own) (SideGoesOn one from own)

-- the bound after frames of the side, and after frames of the other
abbrev pub after_owns : List Frame → Bound → Bound
after_owns [] bound = bound
after_owns (frame ∷ frames) bound = after_owns frames (after_own frame bound)

abbrev pub after_all_others : List Frame → Bound → Bound
after_all_others [] bound = bound
after_all_others (frame ∷ frames) bound = after_all_others frames (after_others frame bound)

-- the stretch of octets that a side within these bounds has sent
abbrev pub stretch_of : (from : Side) → (least : ℕ) → Bound → (notice octets : List ℕ)
    → List Frame → (lines : List ℕ) → Stretch
stretch_of from least bound notice octets frames lines = record {
  side = from;
  limit = min (frame_bound least bound) 1048576;
  table = table_bound bound;
  octets = octets;
  frames = frames;
  notice = notice;
  lines = lines;
}

-- The side has read a stretch within these bounds, which ends with these frames, and printed these
-- lines of it, whatever was printed before these.
abbrev pub SideReads : (old new : OneSide) → (least : ℕ) → Bound → (octets : List ℕ) → List Frame
    → (lines : List ℕ) → Type 0
SideReads old new least bound octets frames lines =
    (from : Side) (own : Stretches) (notice : List ℕ) → SideShows old from own
    → SideShows new from (stretch_of from least bound notice octets frames lines ∷ own)

-- One or no frame ends a stretch.
abbrev pub IsOneOrNone : List Frame → Type 0
IsOneOrNone [] = Unit {0}
IsOneOrNone (frame ∷ []) = Unit {0}
IsOneOrNone (frame ∷ next ∷ more) = ⊥

-- What a call that reads the first octets of a piece makes of a side that no fault has ended, and
-- of what both sides may send.
pub record SideAdvances (old new : OneSide) (least : ℕ) (octets : List ℕ) (used : ℕ)
    (own new_own others new_others : InForce) (text new_text : List ℕ) : Type 0 where
  pub frames : List Frame
  pub lines : List ℕ
  pub within : used ≤ length octets
  pub some : octets ≢ [] → 0 < used
  pub adds : new_text ≡ text ++ lines
  pub own_next : bound_of new_own ≡ after_owns frames (bound_of own)
  pub others_next : bound_of new_others ≡ after_all_others frames (bound_of others)
  pub few : IsOneOrNone frames
  pub reads : SideReads old new least (bound_of own) (take used octets) frames lines

-- A call that reads octets up to the end of a frame, or all of them, and notes that frame.
pub record Scans (old new : CutterState) (octets : List ℕ) (scanned : Scanned)
    (own new_own others new_others : InForce) : Type 0 where
  pub frames : List Frame
  pub within : scanned.used ≤ length octets
  pub some : octets ≢ [] → 0 < scanned.used
  pub ends : scanned.ends_block ≡ last_ends frames
  pub own_next : bound_of new_own ≡ after_owns frames (bound_of own)
  pub others_next : bound_of new_others ≡ after_all_others frames (bound_of others)
  pub few : IsOneOrNone frames
  pub continues : CutterContinues old (take scanned.used octets) frames new

-- The viewer of a side has shown octets, after which no fault is known: if they end a block, the
-- table is within the limit.
pub record PartGoesOn (old new : OneSide) (octets : List ℕ) (ends : Bool) (table : ℕ)
    (printed : List ℕ) : Type 0 where
  pub lines : List ShowLine
  pub all : printed ≡ text_from old.viewer.printer.style old.viewer.printer.next lines
  pub style : new.viewer.printer.style ≡ old.viewer.printer.style
  pub prints : ViewerPrints old.viewer.cutter old.viewer.blocks old.viewer.printer.is_due octets
      new.viewer.cutter new.viewer.blocks new.viewer.printer.is_due lines
  pub keeps : ends ≡ true → new.viewer.blocks.decoder.table.maximum ≤ table

-- The octets are at fault, as `show` finds.
pub record PartFails (old : OneSide) (octets : List ℕ) (printed : List ℕ) : Type 0 where
  pub error : ShowError
  pub after : Viewer
  pub lines : List ShowLine
  pub all : printed ≡ text_from old.viewer.printer.style old.viewer.printer.next lines
      ++ text_from after.printer.style after.printer.next
      (error_lines error after.cutter.place after.printer.is_due)
  pub style : after.printer.style ≡ old.viewer.printer.style
  pub fails : ViewerFailsWith old.viewer.cutter old.viewer.blocks old.viewer.printer.is_due octets
      error after.cutter after.printer.is_due lines

-- The octets end a block, after which the table is above the limit.
pub record PartFailsByTable (old : OneSide) (octets : List ℕ) (ends : Bool) (table : ℕ)
    (printed : List ℕ) : Type 0 where
  pub after : Viewer
  pub lines : List ShowLine
  pub prints : ViewerPrints old.viewer.cutter old.viewer.blocks old.viewer.printer.is_due octets
      after.cutter after.blocks after.printer.is_due lines
  pub block : ends ≡ true
  pub above : table < after.blocks.decoder.table.maximum
  pub line : printed ≡ fault_line CompressionError after.cutter.place

-- What a call that shows octets of a side makes of it.
abbrev pub ShowsPart : (old new : OneSide) → (octets : List ℕ) → (ends : Bool) → (table : ℕ)
    → (printed : List ℕ) → Type 0
ShowsPart old new octets ends table printed =
    MatchBool new.is_over
    (PartFails old octets printed ⊎ PartFailsByTable old octets ends table printed)
    (PartGoesOn old new octets ends table printed)

-- The side's octets end, and this was printed of that.
abbrev pub EndsSide : OneSide → Status → (printed : List ℕ) → Type 0
EndsSide one status printed =
    (from : Side) (own : Stretches) → SideShows one from own → SideEnds from own status printed

-- The client is known once octets have come.
abbrev pub KnowsClient : Option Node → List Piece → Type 0
KnowsClient None pieces = pieces ≡ []
KnowsClient (Some node) pieces = (pieces ≢ []) × (node ≡ client_of pieces)

-- The client, as it is known before the piece, or by it.
abbrev pub ChoosesClient : Option Node → Piece → (client : Node) → Type 0
ChoosesClient None piece client = client ≡ client_by piece
ChoosesClient (Some known) piece client = client ≡ known

-- the side of a follower
abbrev pub one_of : Side → Follower → OneSide
one_of Client follower = follower.client_side
one_of Server follower = follower.server_side

-- These stretches are all that both sides have read, which may send this.
pub record BothRead (client_side server_side : OneSide) (client_bound server_bound : Bound)
    (client_noted server_noted : Bool) (least : ℕ) (log : Stretches) : Type 0 where
  pub client_may : client_bound ≡ in_force Client (sent_in log)
  pub server_may : server_bound ≡ in_force Server (sent_in log)
  pub client : SideShows client_side Client (own_of Client log)
  pub server : SideShows server_side Server (own_of Server log)
  pub client_said : client_noted ≡ was_noted Client log
  pub server_said : server_noted ≡ was_noted Server log
  pub is_log : AreFollowed least log

-- These stretches are all that the follower has read.
abbrev pub FollowerReads : Follower → Stretches → Type 0
FollowerReads follower log =
    BothRead follower.client_side follower.server_side (bound_of follower.client_bound)
    (bound_of follower.server_bound) follower.is_client_noted follower.is_server_noted follower.least
    log

-- The follower has read more stretches.
abbrev pub FollowerReadsMore : (old new : Follower) → (newer : Stretches) → Type 0
FollowerReadsMore old new newer =
    (log : Stretches) → FollowerReads old log → FollowerReads new (newer ++ log)

-- A line says that a side isn't checked in whole, where that begins.
-- rule: follow (own) Where SETTINGS allow a side more than is read, a line says so once
abbrev pub NotesUnchecked : Side → (old new : Follower) → Type 0
NotesUnchecked Client old new =
    (new ≡ record old {
      text = new.text;
      is_client_noted = noted_with old.is_client_noted (bound_of old.client_bound);
    })
    × (new.text.items
    ≡ old.text.items ++ unchecked_line old.is_client_noted (bound_of old.client_bound))
NotesUnchecked Server old new =
    (new ≡ record old {
      text = new.text;
      is_server_noted = noted_with old.is_server_noted (bound_of old.server_bound);
    })
    × (new.text.items
    ≡ old.text.items ++ unchecked_line old.is_server_noted (bound_of old.server_bound))

-- A side that no fault has ended has read the first octets of a piece; the other is as it was.
abbrev pub SideSteps : Side → (old new : Follower) → (octets : List ℕ) → (used : ℕ) → Type 0
SideSteps Client old new octets used =
    SideAdvances old.client_side new.client_side old.least octets used old.client_bound
    new.client_bound old.server_bound new.server_bound old.text.items new.text.items
    × (new.server_side ≡ old.server_side) × (new.client ≡ old.client)
    × (new.least ≡ old.least) × (new.lines.items ≡ old.lines.items)
    × (new.is_client_noted ≡ old.is_client_noted) × (new.is_server_noted ≡ old.is_server_noted)
SideSteps Server old new octets used =
    SideAdvances old.server_side new.server_side old.least octets used old.server_bound
    new.server_bound old.client_bound new.client_bound old.text.items new.text.items
    × (new.client_side ≡ old.client_side) × (new.client ≡ old.client)
    × (new.least ≡ old.least) × (new.lines.items ≡ old.lines.items)
    × (new.is_client_noted ≡ old.is_client_noted) × (new.is_server_noted ≡ old.is_server_noted)

-- The follower has read one more stretch, the first octets of a piece.
pub record FollowerSteps (old new : Follower) (side : Side) (octets : List ℕ) (used : ℕ) : Type 0
  where
    pub stretch : Stretch
    pub of : stretch.side ≡ side
    pub within : used ≤ length octets
    pub some : octets ≢ [] → 0 < used
    pub octets_are : stretch.octets ≡ take used octets
    pub written : new.lines.items
        ≡ old.lines.items ++ marked_of (stretch.side, stretch.notice ++ stretch.lines)
    pub reads : FollowerReadsMore old new (stretch ∷ [])
    pub client : new.client ≡ old.client
    pub least : new.least ≡ old.least

-- What a call that reads octets of a side makes of the follower: stretches, whose lines it adds, and
-- which are all of the octets unless the side is over.
pub record FollowerAdvances (old new : Follower) (side : Side) (octets : List ℕ)
    (lines new_lines : List ℕ) : Type 0 where
  pub newer : Stretches
  pub after : List ℕ
  pub of : AreOf side newer
  pub joined : octets ≡ octets_read newer ++ after
  pub ended : (after ≡ []) ⊎ ((one_of side new).is_over ≡ true)
  pub written : new_lines ≡ lines ++ output_of newer
  pub reads : FollowerReadsMore old new newer
  pub client : new.client ≡ old.client
  pub least : new.least ≡ old.least

-- These stretches are all that was read of the pieces so far.
pub record FollowerShows (follower : Follower) (least : ℕ) (pieces : List Piece)
    (log : Stretches) : Type 0 where
  pub knows : KnowsClient follower.client pieces
  pub parts : ArePieces (sided (client_of pieces) pieces) log
  pub reads : FollowerReads follower log
  pub same : follower.least ≡ least

-- These pieces were taken, by these stretches.
abbrev pub FollowerTakes : (old new : Follower) → (more : List Piece) → (newer : Stretches) → Type 0
FollowerTakes old new more newer =
    (least : ℕ) (pieces : List Piece) (log : Stretches) → FollowerShows old least pieces log
    → FollowerShows new least (pieces ++ more) (newer ++ log)

-- Lines were read of known octets, which begin with them.
abbrev pub ReadsLines : (before after : Option (List ℕ)) → List Line → Type 0
ReadsLines None after lines = Unit {0}
ReadsLines (Some text) None lines = ⊥
ReadsLines (Some text) (Some rest) lines = BeginsWithLines text lines rest
