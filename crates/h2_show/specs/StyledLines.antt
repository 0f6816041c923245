-- The lines of `h2 show` with names, places and colors, as octets.
use Rattle.std.specs.Prelude.{ℕ, ◌+◌, ◌*◌, ◌-◌, ◌==◌, Bool, true, false, if◌then◌else◌, List, []}
use Rattle.std.specs.Prelude.{◌∷◌, ◌++◌, length, take, drop, codes, decimal, flat_map, replicate}
use Rattle.std.specs.Prelude.{position, unwrap_or, Option, Some, None}
use Rattle.hpack.specs.declared.types.field.Field.{Field}
use Rattle.h2_frame.specs.Codes.{name_of}
use Rattle.h2_frame.specs.Frames.{Frame, Data, Headers, Priority, Reset, Settings, Ping, GoAway}
use Rattle.h2_frame.specs.Frames.{WindowUpdate, Continuation, Unknown}
use Rattle.h2_show.specs.declared.options.TextStyle.{TextStyle}
use Rattle.h2_show.specs.ShownLines.{Listing, listed, too_large, ShowLine, preface_shown}
use Rattle.h2_show.specs.ShownLines.{frame_shown, fault_shown, rest_shown, unfinished_shown}
use Rattle.h2_show.specs.Lines.{frame_words, frame_head, flag_word, shown_octets}
use Rattle.h2_show.specs.Named.{setting_name, code_name}

-- a space and the name of an error code, where it has one
-- rule: show (own) Settings and error codes have their names where words ask for them
abbrev pub name_word : Option (List ℕ) → List ℕ
name_word None = []
name_word (Some name) = codes " " ++ name

-- the name of a setting, or its number where it has none
-- rule: show (own) Settings and error codes have their names where words ask for them
abbrev pub setting_word : (id : ℕ) → List ℕ
setting_word id = unwrap_or (setting_name id) (decimal id)

-- the pairs of SETTINGS, in order, with the names of the settings
-- rule: show (own) Settings and error codes have their names where words ask for them
abbrev pub named_pairs : List (ℕ × ℕ) → List ℕ
named_pairs pairs =
    flat_map (λ pair. codes " " ++ setting_word pair.0 ++ codes "=" ++ decimal pair.1) pairs

-- the words of a frame with names: an error code is followed by its name
-- rule: show (own) Settings and error codes have their names where words ask for them
unfoldable pub named_words : Frame → List ℕ
named_words (Reset stream code) =
    frame_words (Reset stream code) ++ name_word (code_name code)
named_words (Settings ack pairs) =
    frame_head (codes "SETTINGS") 0 (6 * length pairs) ++ flag_word ack (codes "ack")
    ++ named_pairs pairs
named_words (GoAway last code debug) =
    frame_head (codes "GOAWAY") 0 (8 + length debug) ++ codes " last=" ++ decimal last
    ++ codes " code=" ++ decimal code ++ name_word (code_name code) ++ codes " debug="
    ++ decimal (length debug)
named_words (Data stream end octets pad) = frame_words (Data stream end octets pad)
named_words (Headers stream end whole fragment pad priority) =
    frame_words (Headers stream end whole fragment pad priority)
named_words (Priority stream octets) = frame_words (Priority stream octets)
named_words (Ping ack octets) = frame_words (Ping ack octets)
named_words (WindowUpdate stream increment) = frame_words (WindowUpdate stream increment)
named_words (Continuation stream whole fragment) =
    frame_words (Continuation stream whole fragment)
named_words (Unknown kind flags stream payload) = frame_words (Unknown kind flags stream payload)

-- the words of a frame, with names or without
-- rule: show (own) Settings and error codes have their names where words ask for them
abbrev pub styled_words : (names : Bool) → Frame → List ℕ
styled_words true frame = named_words frame
styled_words false frame = frame_words frame

-- a number in ten digits, or in more where it needs them, so that lines sort by it
-- rule: show (own) A frame's place is the number of its first octet, in ten digits
abbrev pub ten_digits : ℕ → List ℕ
ten_digits number = replicate (10 - length (decimal number)) 48 ++ decimal number

-- a place and a space, where places are shown
-- rule: show (own) A frame's place is the number of its first octet, in ten digits
abbrev pub place_word : (places : Bool) → (at : ℕ) → List ℕ
place_word true at = ten_digits at ++ codes " "
place_word false at = []

-- the sequence of a terminal that begins a color or another look: ESC, `[`, its number and `m`
-- rule: show (own) Colors begin and end within each line
abbrev pub look : (number : List ℕ) → List ℕ
look number = 27 ∷ (codes "[" ++ number ++ codes "m")

-- a look, where there are colors
abbrev pub look_if : (colors : Bool) → (number : List ℕ) → List ℕ
look_if colors number = if colors then look number else []

-- words in a look, which ends with them; without colors they are as they are
-- rule: show (own) Colors begin and end within each line
abbrev pub in_look : (colors : Bool) → (number words : List ℕ) → List ℕ
in_look colors number words = look_if colors number ++ words ++ look_if colors (codes "0")

-- how many octets the first of some words has
abbrev pub first_length : List ℕ → ℕ
first_length words = unwrap_or (position (λ octet. octet == 32) words) (length words)

-- words of which the first, the type of a frame, is bold
-- rule: show (own) Colors begin and end within each line
abbrev pub first_in_bold : (colors : Bool) → (words : List ℕ) → List ℕ
first_in_bold colors words =
    in_look colors (codes "1") (take (first_length words) words) ++ drop (first_length words) words

-- the words of a field: its line without the line's end
-- rule: show (own) The line of a field has its mark, its name and its value
abbrev pub field_words : Field → List ℕ
field_words field =
    (if field.sensitive then codes "  !" else codes "  ") ++ shown_octets field.name
    ++ codes ": " ++ shown_octets field.value

-- the line of a field, which is faint
-- rule: show (own) Colors begin and end within each line
abbrev pub styled_field : (colors : Bool) → Field → List ℕ
styled_field colors field = in_look colors (codes "2") (field_words field) ++ codes "\n"

-- the lines of the block that a frame ends, which are faint, as those of fields
-- rule: show (own) Colors begin and end within each line
abbrev pub styled_listing : (colors : Bool) → Option Listing → List ℕ
styled_listing colors None = []
styled_listing colors (Some (listed fields)) = flat_map (styled_field colors) fields
styled_listing colors (Some too_large) =
    in_look colors (codes "2") (codes "  list too large") ++ codes "\n"

-- A line in a style. The preface and frames have their place first and their type bold; what ends
-- with status 1, a fault and what is unfinished, is red.
-- rule: show (own) The words choose names, places, colors and JSON
abbrev pub styled_line : TextStyle → (at : ℕ) → ShowLine → List ℕ
styled_line style at preface_shown =
    place_word style.places at ++ in_look style.colors (codes "1") (codes "preface") ++ codes "\n"
styled_line style at (frame_shown frame listing) =
    place_word style.places at ++ first_in_bold style.colors (styled_words style.names frame)
    ++ codes "\n" ++ styled_listing style.colors listing
styled_line style at (fault_shown code place) =
    in_look style.colors (codes "31") (codes "fault " ++ name_of code ++ codes " at "
    ++ decimal place) ++ codes "\n"
styled_line style at (rest_shown count) =
    in_look style.colors (codes "31") (codes "rest " ++ decimal count) ++ codes "\n"
styled_line style at unfinished_shown =
    in_look style.colors (codes "31") (codes "unfinished block") ++ codes "\n"
