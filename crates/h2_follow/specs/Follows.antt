-- What `h2 show --follow` prints of both sides, and the status with it.
-- contract: h2_follow::follow_input
use Rattle.std.specs.Prelude.{◌≡◌, ℕ, ◌==◌, ◌&&◌, ◌||◌, Bool, true, if◌then◌else◌, List, []}
use Rattle.std.specs.Prelude.{◌∷◌, ◌++◌, drop, codes, Option, Some}
use Rattle.h2_cli.specs.Hints.{begins_with, is_capture}
use Rattle.h2_cli.specs.declared.status.Status.{Status}
use Rattle.h2_cli.specs.declared.status.Status.TheVariants.{Good, Fault}
use Rattle.h2_show.specs.declared.options.Side.TheVariants.{Client, Server}
use Rattle.h2_show.specs.declared.options.Side.{Side}
use Rattle.h2_show.specs.Report.{begins_with_preface}
use Rattle.h2_follow.specs.declared.hint.FollowHint.{FollowHint}
use Rattle.h2_follow.specs.declared.hint.FollowHint.TheVariants as hints
use Rattle.h2_follow.specs.FollowText.{FollowText, HasBadLine, Line, OfSide, Piece, client_of}
use Rattle.h2_follow.specs.FollowText.{sided}
use Rattle.h2_follow.specs.Stretches.{ArePieces, HasTableFault, AreFollowed, ShowsPlain, Stretches}
use Rattle.h2_follow.specs.Stretches.{lines_read}
use Rattle.h2_follow.specs.Stretches.{limits_in, octets_read}
use Rattle.h2_follow.specs.Stretches.{own_of}

-- the mark of a side's lines
-- rule: follow (own) Each side has the lines that show prints of it, after its mark
abbrev pub mark_of : Side → List ℕ
mark_of Client = codes "> "
mark_of Server = codes "< "

-- lines, each after the mark; `starts` says that the first octet begins a line
-- rule: follow (own) Each side has the lines that show prints of it, after its mark
abbrev pub marked : (mark : List ℕ) → (starts : Bool) → List ℕ → List ℕ
marked mark starts [] = []
marked mark starts (octet ∷ octets) =
    (if starts then mark else []) ++ (octet ∷ marked mark (octet == 10) octets)

-- lines of a side after its mark
-- rule: follow (own) Each side has the lines that show prints of it, after its mark
abbrev pub marked_of : OfSide → List ℕ
marked_of lines = marked (mark_of lines.0) true lines.1

-- what both sides' statuses make: that of the whole is good where both are
-- rule: follow (own) The status is 0 only where both sides are good to their ends
abbrev pub status_of_both : (client server : Status) → Status
status_of_both Good Good = Good
status_of_both client server = Fault

-- what is printed of the stretches, each line after its side's mark
-- rule: follow (own) A line stands where the last octet of its frame came
-- rule: follow (own) Where SETTINGS allow a side more than is read, a line says so once
abbrev pub output_of : Stretches → List ℕ
output_of [] = []
output_of (part ∷ log) = output_of log ++ marked_of (part.side, part.notice ++ part.lines)

-- The end of a side's octets adds this to its lines, and the status of the side is this: what
-- `h2 show` prints of the octets within the limits, or no more after the fault of a table.
-- rule: follow (own) Each side has the lines that show prints of it, after its mark
-- rule: follow (own) The status is 0 only where both sides are good to their ends
pub data SideEnds (from : Side) (own : Stretches) (status : Status) (last : List ℕ) : Type 0 where
  as_shown : ShowsPlain (begins_with_preface from) (limits_in own) (octets_read own) status
      (lines_read own ++ last)
      → SideEnds from own status last
  at_table : HasTableFault from own → status ≡ Fault → last ≡ [] → SideEnds from own status last

-- The whole output of pieces: the lines of their stretches, and then those of each side's end, the
-- client's first. `least` is the limit of payloads whatever SETTINGS say.
-- rule: follow (own) Each side has the lines that show prints of it, after its mark
-- rule: follow (own) A line stands where the last octet of its frame came
-- rule: follow (own) A side's fault ends that side, while the other goes on
-- rule: follow (own) What a side may send follows the other's SETTINGS, and its own ACK
pub record FollowsPieces (least : ℕ) (pieces : List OfSide) (status : Status)
    (output : List ℕ) : Type 0 where
  pub log : Stretches
  pub parts : ArePieces pieces log
  pub is_log : AreFollowed least log
  pub client_last : List ℕ
  pub server_last : List ℕ
  pub client_status : Status
  pub server_status : Status
  pub client : SideEnds Client (own_of Client log) client_status client_last
  pub server : SideEnds Server (own_of Server log) server_status server_last
  pub all : output ≡ output_of log
      ++ (marked_of (Client, client_last) ++ marked_of (Server, server_last))
  pub ended : status ≡ status_of_both client_status server_status

-- what is printed of a text
-- rule: follow (own) The status is 0 only where both sides are good to their ends
abbrev pub FollowsText : (least : ℕ) → (text : List ℕ) → Status → (output : List ℕ) → Type 0
FollowsText least text status output =
    (pieces : List Piece) × FollowText text pieces
    × FollowsPieces least (sided (client_of pieces) pieces) status output

-- whether the third line of a capture in the format pcapng, the first four octets of which are two
-- lines of blanks: the length of its first block, and then its order of octets
-- rule: follow (own) A line that is not of tshark's text ends all, with its number
abbrev pub has_order_of_octets : Line → Bool
has_order_of_octets line =
    begins_with (drop 4 line) (0x4d ∷ 0x3c ∷ 0x2b ∷ 0x1a ∷ [])
    || begins_with (drop 4 line) (0x1a ∷ 0x2b ∷ 0x3c ∷ 0x4d ∷ [])

-- whether the line with this number, counted from 1, is one of a capture of packets
-- rule: follow (own) A line that is not of tshark's text ends all, with its number
abbrev pub is_capture_line : (number : ℕ) → Line → Bool
is_capture_line number line =
    number == 1 && is_capture line || number == 3 && has_order_of_octets line

-- the hint for the line with this number, which is refused: that number, or that the text is a
-- capture
-- rule: follow (own) A line that is not of tshark's text ends all, with its number
abbrev pub hint_of_line : (number : ℕ) → Line → FollowHint
hint_of_line number line =
    if is_capture_line number line then hints.Capture else hints.BadLine number

-- What is printed of a text up to a line that is refused: the lines of the stretches of the lines
-- before it, and nothing of the sides' ends. The hint is that for the line.
-- rule: follow (own) A line that is not of tshark's text ends all, with its number
pub record FollowsToBadLine (least : ℕ) (text : List ℕ) (hint : Option FollowHint)
    (output : List ℕ) : Type 0 where
  pub number : ℕ
  pub bad : HasBadLine text number
  pub log : Stretches
  pub parts : ArePieces (sided (client_of bad.pieces) bad.pieces) log
  pub is_log : AreFollowed least log
  pub all : output ≡ output_of log
  pub reports : hint ≡ Some (hint_of_line number bad.line)
