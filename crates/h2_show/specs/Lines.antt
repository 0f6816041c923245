-- The lines of `h2 show`, as octets, in the style that no words choose otherwise: what README's tour
-- and `h2 show --help` say in words.
use Rattle.std.specs.Prelude.{ℕ, ◌+◌, ◌*◌, ◌==◌, nat_le, not, ◌&&◌, Bool}
use Rattle.std.specs.Prelude.{true, false, if◌then◌else◌, List, [], ◌∷◌, ◌++◌, length, codes}
use Rattle.std.specs.Prelude.{decimal}
use Rattle.std.specs.Prelude.{flat_map, Option, Some, None}
use Rattle.std.specs.Option.{is_some}
use Rattle.hex.specs.Hex.{encode_lower}
use Rattle.hpack.specs.declared.types.field.Field.{Field}
use Rattle.h2_frame.specs.declared.code.Code.{Code}
use Rattle.h2_frame.specs.Codes.{name_of}
use Rattle.h2_frame.specs.Frames.{Frame, Data, Headers, Priority, Reset, Settings, Ping, GoAway}
use Rattle.h2_frame.specs.Frames.{WindowUpdate, Continuation, Unknown}
use Rattle.h2_show.specs.ShownLines.{Listing, listed, too_large, ShowLine, preface_shown}
use Rattle.h2_show.specs.ShownLines.{frame_shown, fault_shown, rest_shown, unfinished_shown}

-- whether an octet is shown unescaped: printable ASCII, but for the backslash
-- rule: show (own) The line of a field has its mark, its name and its value
abbrev pub is_plain : ℕ → Bool
is_plain octet = nat_le 32 octet && nat_le octet 126 && not (octet == 92)

-- an octet as it is, or as `\x` and two hexadecimal digits
-- rule: show (own) The line of a field has its mark, its name and its value
abbrev pub shown_octet : ℕ → List ℕ
shown_octet octet = if is_plain octet then octet ∷ [] else 92 ∷ 120 ∷ encode_lower (octet ∷ [])

-- rule: show (own) The line of a field has its mark, its name and its value
abbrev pub shown_octets : List ℕ → List ℕ
shown_octets octets = flat_map shown_octet octets

-- the line of a field: two spaces, `!` where it is never indexed, the name, a colon and a space,
-- and the value
-- rule: show (own) The line of a field has its mark, its name and its value
abbrev pub field_line : Field → List ℕ
field_line field =
    (if field.sensitive then codes "  !" else codes "  ") ++ shown_octets field.name
    ++ codes ": " ++ shown_octets field.value ++ codes "\n"

-- the lines of the block that a frame ends, where it ends one: of its fields, or that there are too
-- many
-- rule: show (own) A list above 65,536 octets has one line, without fields
abbrev pub listing_lines : Option Listing → List ℕ
listing_lines None = []
listing_lines (Some (listed fields)) = flat_map field_line fields
listing_lines (Some too_large) = codes "  list too large\n"

-- a space and the word of a flag, where the flag is set
-- rule: show (own) The line of a frame has its type, stream, octets and more
abbrev pub flag_word : Bool → (word : List ℕ) → List ℕ
flag_word true word = codes " " ++ word
flag_word false word = []

-- a space and the pad length, where there is one
-- rule: show (own) The line of a frame has its type, stream, octets and more
abbrev pub pad_word : Option ℕ → List ℕ
pad_word None = []
pad_word (Some pad) = codes " pad=" ++ decimal pad

-- the number of octets of a payload that are the pad length and the padding
-- rule: show (own) The line of a frame has its type, stream, octets and more
abbrev pub pad_octets : Option ℕ → ℕ
pad_octets None = 0
pad_octets (Some pad) = pad + 1

-- the pairs of SETTINGS, in order
-- rule: show (own) The line of a frame has its type, stream, octets and more
abbrev pub pair_words : List (ℕ × ℕ) → List ℕ
pair_words pairs =
    flat_map (λ pair. codes " " ++ decimal pair.0 ++ codes "=" ++ decimal pair.1) pairs

-- the type of a frame, its stream and the length of its payload
-- rule: show (own) The line of a frame has its type, stream, octets and more
abbrev pub frame_head : (name : List ℕ) → (stream octets : ℕ) → List ℕ
frame_head name stream octets = name ++ codes " " ++ decimal stream ++ codes " " ++ decimal octets

-- the words of a frame, which one space divides; numbers are decimal, but the octets of a PING
-- rule: show (own) The line of a frame has its type, stream, octets and more
unfoldable pub frame_words : Frame → List ℕ
frame_words (Data stream end octets pad) =
    frame_head (codes "DATA") stream (length octets + pad_octets pad)
    ++ flag_word end (codes "end") ++ pad_word pad
frame_words (Headers stream end whole fragment pad priority) =
    frame_head (codes "HEADERS") stream
    (length fragment + pad_octets pad + (if is_some priority then 5 else 0))
    ++ flag_word end (codes "end") ++ flag_word whole (codes "whole") ++ pad_word pad
    ++ flag_word (is_some priority) (codes "priority")
frame_words (Priority stream octets) = frame_head (codes "PRIORITY") stream 5
frame_words (Reset stream code) =
    frame_head (codes "RST_STREAM") stream 4 ++ codes " code=" ++ decimal code
frame_words (Settings ack pairs) =
    frame_head (codes "SETTINGS") 0 (6 * length pairs) ++ flag_word ack (codes "ack")
    ++ pair_words pairs
frame_words (Ping ack octets) =
    frame_head (codes "PING") 0 8 ++ flag_word ack (codes "ack") ++ codes " "
    ++ encode_lower octets
frame_words (GoAway last code debug) =
    frame_head (codes "GOAWAY") 0 (8 + length debug) ++ codes " last=" ++ decimal last
    ++ codes " code=" ++ decimal code ++ codes " debug=" ++ decimal (length debug)
frame_words (WindowUpdate stream increment) =
    frame_head (codes "WINDOW_UPDATE") stream 4 ++ codes " add=" ++ decimal increment
frame_words (Continuation stream whole fragment) =
    frame_head (codes "CONTINUATION") stream (length fragment) ++ flag_word whole (codes "whole")
frame_words (Unknown kind flags stream payload) =
    frame_head (codes "KIND" ++ decimal kind) stream (length payload) ++ codes " flags="
    ++ decimal flags

-- rule: show (own) The line of a frame has its type, stream, octets and more
abbrev pub frame_line : Frame → List ℕ
frame_line frame = frame_words frame ++ codes "\n"

-- the line of the preface, which comes first where it is expected and complete
-- rule: show (own) An input has one output: preface, frames, then how it ends
abbrev pub preface_line : List ℕ
preface_line = codes "preface\n"

-- the line of a fault: its code, and the number of the octet that is at fault, from 1 on
-- rule: show (own) A fault is printed with the name of its code and its place
abbrev pub fault_line : Code → (place : ℕ) → List ℕ
fault_line code place =
    codes "fault " ++ name_of code ++ codes " at " ++ decimal place ++ codes "\n"

-- the line of the octets that are left of a frame or of the preface
-- rule: show (own) An input has one output: preface, frames, then how it ends
abbrev pub rest_line : (count : ℕ) → List ℕ
rest_line count = codes "rest " ++ decimal count ++ codes "\n"

-- the line of a block that has begun and isn't complete
-- rule: show (own) An input has one output: preface, frames, then how it ends
abbrev pub unfinished_line : List ℕ
unfinished_line = codes "unfinished block\n"

-- a line as it is printed where no words choose otherwise
-- rule: show (own) An input has one output: preface, frames, then how it ends
abbrev pub plain_line : ShowLine → List ℕ
plain_line preface_shown = preface_line
plain_line (frame_shown frame listing) = frame_line frame ++ listing_lines listing
plain_line (fault_shown code place) = fault_line code place
plain_line (rest_shown count) = rest_line count
plain_line unfinished_shown = unfinished_line
