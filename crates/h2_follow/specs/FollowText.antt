-- The text that `tshark -q -z follow,tcp,raw,N` prints of a connection: a head, a line of hexadecimal
-- for octets that came together, in the order in which they came, those of node 1 after a tab, and
-- a border. The lines of the head may come in any order, any number of times, or not at all; the
-- first blank line or border after octets ends them; and the text may end after any line.
-- contract: h2_follow::follow_input
use Rattle.std.specs.Prelude.{◌≡◌, ◌≢◌, ◌⊎◌, ℕ, ◌+◌, ◌||◌, Bool, true, false, if◌then◌else◌, List, []}
use Rattle.std.specs.Prelude.{◌∷◌, ◌++◌, length, take, map, codes, Option, Some, None, Ok}
use Rattle.std.specs.List.{list_all}
use Rattle.std.specs.Io.BufRead.{take_through, drop_through}
use Rattle.hex.specs.Hex.{decode_of}
use Rattle.h2_cli.specs.Hexadecimal.{IsBadHex, is_skipped_blank, without_blanks}
use Rattle.h2_cli.specs.Hints.{begins_with}
use Rattle.h2_show.specs.declared.options.Side.{Side}
use Rattle.h2_show.specs.declared.options.Side.TheVariants.{Client, Server}
use Rattle.h2_follow.specs.declared.text.Node.{Node}
use Rattle.h2_follow.specs.declared.text.Node.TheVariants.{Zero, One}
use Rattle.h2_follow.specs.declared.text.Part.{Part}
use Rattle.h2_follow.specs.declared.text.Part.TheVariants.{Head, Octets, Last}
use Rattle.h2_follow.specs.declared.text.Read.{Read}

abbrev pub Line : Type 0
Line = List ℕ

-- The text begins with these lines, each with its line feed, which the last line of the text may
-- lack; `rest` follows them.
-- rule: follow (own) Both sides are read of the text that tshark prints of them
abbrev pub BeginsWithLines : (text : List ℕ) → List Line → (rest : List ℕ) → Type 0
BeginsWithLines text [] rest = rest ≡ text
BeginsWithLines text (line ∷ lines) rest =
    (text ≢ []) × (line ≡ take_through 10 text)
    × BeginsWithLines (drop_through 10 text) lines rest

-- a line of blanks alone
-- rule: follow (own) Both sides are read of the text that tshark prints of them
abbrev pub is_empty_line : Line → Bool
is_empty_line line = list_all is_skipped_blank line

-- the line before the head, and that after the octets
-- rule: follow (own) Both sides are read of the text that tshark prints of them
abbrev pub is_border : Line → Bool
is_border line = begins_with line (codes "====")

-- a line of the head that says what is followed: octets as they are, of TCP or within TLS
-- rule: follow (own) Both sides are read of the text that tshark prints of them
abbrev pub is_label : Line → Bool
is_label line = begins_with line (codes "Follow: tcp,raw")
    || begins_with line (codes "Follow: tls,raw") || begins_with line (codes "Filter: ")
    || begins_with line (codes "Node 0: ") || begins_with line (codes "Node 1: ")

-- rule: follow (own) Both sides are read of the text that tshark prints of them
abbrev pub is_head_line : Line → Bool
is_head_line line = is_empty_line line || is_border line || is_label line

-- rule: follow (own) Both sides are read of the text that tshark prints of them
abbrev pub is_last_line : Line → Bool
is_last_line line = is_empty_line line || is_border line

-- octets that came together, and the node that sent them
abbrev pub Piece : Type 0
Piece = Node × List ℕ

-- the line begins with a space, with which no line of tshark's begins
-- rule: follow (own) A line that is not of tshark's text ends all, with its number
abbrev pub begins_with_space : Line → Bool
begins_with_space line = begins_with line (codes " ")

-- the node whose octets a line gives: node 1 where it begins with a tab
-- rule: follow (own) Both sides are read of the text that tshark prints of them
abbrev pub node_of : Line → Node
node_of line = if begins_with line (9 ∷ []) then One else Zero

-- The line gives the piece, in hexadecimal, of which blanks are dropped. It begins with no space.
-- rule: follow (own) Both sides are read of the text that tshark prints of them
abbrev pub GivesPiece : Line → Piece → Type 0
GivesPiece line piece =
    (is_empty_line line ≡ false) × (begins_with_space line ≡ false) × (piece.0 ≡ node_of line)
    × (decode_of (without_blanks line) ≡ Ok piece.1)

-- Each of the lines gives one of the pieces, in order.
-- rule: follow (own) Both sides are read of the text that tshark prints of them
abbrev pub GivePieces : List Line → List Piece → Type 0
GivePieces [] pieces = pieces ≡ []
GivePieces (line ∷ lines) [] = ⊥
GivePieces (line ∷ lines) (piece ∷ pieces) = GivesPiece line piece × GivePieces lines pieces

-- The part of the text that these lines of octets, and these after them, end in.
abbrev pub IsInPart : Part → (given last : List Line) → Type 0
IsInPart Head given last = (given ≡ []) × (last ≡ [])
IsInPart Octets given last = (given ≢ []) × (last ≡ [])
IsInPart Last given last = (given ≢ []) × (last ≢ [])

-- The lines so far give these pieces: lines of the head, lines of octets, and lines after those.
-- rule: follow (own) Both sides are read of the text that tshark prints of them
pub record LinesSoFar (part : Part) (lines : List Line) (pieces : List Piece) : Type 0 where
  pub head : List Line
  pub given : List Line
  pub last : List Line
  pub joined : lines ≡ head ++ (given ++ last)
  pub heads : list_all is_head_line head ≡ true
  pub gives : GivePieces given pieces
  pub lasts : list_all is_last_line last ≡ true
  pub ends : IsInPart part given last

-- The text gives these pieces. It may end after any line.
-- rule: follow (own) Both sides are read of the text that tshark prints of them
pub record FollowText (text : List ℕ) (pieces : List Piece) : Type 0 where
  pub part : Part
  pub lines : List Line
  pub begins : BeginsWithLines text lines []
  pub read : LinesSoFar part lines pieces

-- whether a line without octets belongs to a part
abbrev pub belongs : Part → Line → Bool
belongs Head line = is_head_line line
belongs Octets line = is_last_line line
belongs Last line = is_last_line line

-- the part that such a line is of
abbrev pub part_after : Part → Part
part_after Head = Head
part_after Octets = Last
part_after Last = Last

-- The line gives no octets.
-- rule: follow (own) A line that is not of tshark's text ends all, with its number
abbrev pub GivesNone : Line → Type 0
GivesNone line = IsBadHex line ⊎ (begins_with_space line ≡ true)

-- The line can't follow in this part of the text: in the head and among octets it is no line of
-- that part and gives no octets, and after them it is no line of that part.
-- rule: follow (own) A line that is not of tshark's text ends all, with its number
abbrev pub IsRefusedLine : Part → Line → Type 0
IsRefusedLine Head line = (is_head_line line ≡ false) × GivesNone line
IsRefusedLine Octets line = (is_last_line line ≡ false) × GivesNone line
IsRefusedLine Last line = is_last_line line ≡ false

-- The line of the text with this number, counted from 1, can't follow those before it.
-- rule: follow (own) A line that is not of tshark's text ends all, with its number
pub record HasBadLine (text : List ℕ) (number : ℕ) : Type 0 where
  pub part : Part
  pub before : List Line
  pub pieces : List Piece
  pub line : Line
  pub rest : List ℕ
  pub begins : BeginsWithLines text (before ++ line ∷ []) rest
  pub read : LinesSoFar part before pieces
  pub refused : IsRefusedLine part line
  pub counted : number ≡ length before + 1

-- whether octets begin as the preface does (RFC 9113, section 3.4), as far as they go
-- rule: follow (own) The client is whose octets come first as the preface, or else the other
abbrev pub begins_as_preface : List ℕ → Bool
begins_as_preface octets = begins_with (codes "PRI * HTTP/2.0") (take 14 octets)

abbrev pub other_node : Node → Node
other_node Zero = One
other_node One = Zero

-- The client, by the octets that came first: the node that sent them, where they begin as the
-- preface does, and else the other, since they are a server's. Without octets it is node 0.
-- rule: follow (own) The client is whose octets come first as the preface, or else the other
abbrev pub client_by : Piece → Node
client_by piece = if begins_as_preface piece.1 then piece.0 else other_node piece.0

-- rule: follow (own) The client is whose octets come first as the preface, or else the other
abbrev pub client_of : List Piece → Node
client_of [] = Zero
client_of (piece ∷ pieces) = client_by piece

-- the side of a node
abbrev pub side_of_node : (client node : Node) → Side
side_of_node Zero Zero = Client
side_of_node Zero One = Server
side_of_node One Zero = Server
side_of_node One One = Client

-- octets, or lines, and the side that they are of
abbrev pub OfSide : Type 0
OfSide = Side × List ℕ

-- the pieces with their sides
abbrev pub sided : (client : Node) → List Piece → List OfSide
sided client pieces = map (λ piece. (side_of_node client piece.0, piece.1)) pieces

-- what a line gives
abbrev pub pieces_read : Option Read → List Piece
pieces_read None = []
pieces_read (Some read) = (read.node, read.octets.items) ∷ []
