-- The lines of `h2 show --json`: a JSON value each (RFC 8259), printed without blanks.
use Rattle.std.specs.Prelude.{◌≡◌, ℕ, Result, OnOk, Bool, if◌then◌else◌, List, [], ◌∷◌, ◌++◌, length, map}
use Rattle.std.specs.Prelude.{codes, decimal, flat_map, Option, Some, None}
use Rattle.std.specs.Option.{is_some}
use Rattle.std.specs.Str.{is_utf8}
use Rattle.hex.specs.Hex.{encode_lower}
use Rattle.json.specs.Json as json
use Rattle.json.specs.Print.{print}
use Rattle.json.specs.Token.{Token}
use Rattle.json.specs.Tree.{json_tokens}
use Rattle.json.specs.Written.{Written}
use Rattle.hpack.specs.declared.types.field.Field.{Field}
use Rattle.h2_frame.specs.Codes.{name_of, code_number}
use Rattle.h2_frame.specs.Encoding.{kind_of_frame, payload_of, stream_of}
use Rattle.h2_frame.specs.Frames.{Frame, Data, Headers, Priority, Reset, Settings, Ping, GoAway}
use Rattle.h2_frame.specs.Frames.{WindowUpdate, Continuation, Unknown}
use Rattle.h2_frame.specs.declared.kind.Kind.{Kind}
use Rattle.h2_frame.specs.declared.kind.Kind.TheVariants as kinds
use Rattle.h2_show.specs.ShownLines.{Listing, listed, too_large, ShowLine, preface_shown}
use Rattle.h2_show.specs.ShownLines.{frame_shown, fault_shown, rest_shown, unfinished_shown}
use Rattle.h2_show.specs.Named.{setting_name, code_name}

-- a member of an object: its key and its value
abbrev pub JsonMember : Type 0
JsonMember = List ℕ × json.Json

abbrev pub members_of : List JsonMember → json.Members
members_of [] = json.no_members
members_of (one ∷ others) = json.member one.0 one.1 (members_of others)

-- an object of these members, in this order
abbrev pub object_of : List JsonMember → json.Json
object_of members = json.object (members_of members)

abbrev pub json_items : List json.Json → json.Items
json_items [] = json.no_items
json_items (one ∷ others) = json.item one (json_items others)

-- an array of these values
abbrev pub array_of : List json.Json → json.Json
array_of values = json.array (json_items values)

abbrev pub number_of_json : ℕ → json.Json
number_of_json count = json.number (decimal count)

-- The first two members of each object: the place of its first octet, and its type.
-- rule: show (own) With --json each line is a JSON object
abbrev pub first_members : (at : ℕ) → (type : List ℕ) → List JsonMember
first_members at type =
    (codes "at", number_of_json at) ∷ (codes "type", json.string type) ∷ []

-- the type of a frame by name
-- rule: show (own) With --json each line is a JSON object
abbrev pub type_name : Kind → List ℕ
type_name kinds.Data = codes "DATA"
type_name kinds.Headers = codes "HEADERS"
type_name kinds.Priority = codes "PRIORITY"
type_name kinds.RstStream = codes "RST_STREAM"
type_name kinds.Settings = codes "SETTINGS"
type_name kinds.PushPromise = codes "PUSH_PROMISE"
type_name kinds.Ping = codes "PING"
type_name kinds.GoAway = codes "GOAWAY"
type_name kinds.WindowUpdate = codes "WINDOW_UPDATE"
type_name kinds.Continuation = codes "CONTINUATION"
type_name (kinds.Unknown number) = codes "UNKNOWN"

-- the pad length, where there is one
abbrev pub pad_members : Option ℕ → List JsonMember
pad_members None = []
pad_members (Some pad) = (codes "pad", number_of_json pad) ∷ []

-- a name, where there is one
-- rule: show (own) Settings and error codes have their names where words ask for them
abbrev pub name_members : Option (List ℕ) → List JsonMember
name_members None = []
name_members (Some name) = (codes "name", json.string name) ∷ []

-- an error code, and its name where it has one
-- rule: show (own) With --json each line is a JSON object
abbrev pub code_members : (number : ℕ) → List JsonMember
code_members number = (codes "code", number_of_json number) ∷ name_members (code_name number)

-- a pair of SETTINGS
-- rule: show (own) With --json each line is a JSON object
abbrev pub pair_json : ℕ × ℕ → json.Json
pair_json pair = object_of (((codes "id", number_of_json pair.0) ∷ name_members (setting_name pair.0))
    ++ (codes "value", number_of_json pair.1) ∷ [])

-- what the type of a frame adds
-- rule: show (own) With --json each line is a JSON object
unfoldable pub more_members : Frame → List JsonMember
more_members (Data stream end octets pad) = (codes "end", json.boolean end) ∷ pad_members pad
more_members (Headers stream end whole fragment pad priority) =
    (codes "end", json.boolean end) ∷ (codes "whole", json.boolean whole)
    ∷ (codes "priority", json.boolean (is_some priority)) ∷ pad_members pad
more_members (Priority stream octets) = []
more_members (Reset stream code) = code_members code
more_members (Settings ack pairs) =
    (codes "ack", json.boolean ack) ∷ (codes "settings", array_of (map pair_json pairs)) ∷ []
more_members (Ping ack octets) =
    (codes "ack", json.boolean ack)
    ∷ (codes "octets", json.string (encode_lower octets)) ∷ []
more_members (GoAway last code debug) =
    ((codes "last", number_of_json last) ∷ code_members code)
    ++ (codes "debug", number_of_json (length debug)) ∷ []
more_members (WindowUpdate stream increment) = (codes "add", number_of_json increment) ∷ []
more_members (Continuation stream whole fragment) = (codes "whole", json.boolean whole) ∷ []
more_members (Unknown kind flags stream payload) =
    (codes "kind", number_of_json kind) ∷ (codes "flags", number_of_json flags) ∷ []

-- octets under this key, where they are UTF-8, and else in hexadecimal under the key with `_hex`
-- rule: show (own) With --json octets that are not UTF-8 are in hexadecimal under another key
abbrev pub octets_member : (key octets : List ℕ) → JsonMember
octets_member key octets =
    if is_utf8 octets then (key, json.string octets)
    else (key ++ codes "_hex", json.string (encode_lower octets))

-- a field
-- rule: show (own) With --json octets that are not UTF-8 are in hexadecimal under another key
abbrev pub field_json : Field → json.Json
field_json field = object_of (octets_member (codes "name") field.name
    ∷ octets_member (codes "value") field.value
    ∷ (codes "never_indexed", json.boolean field.sensitive) ∷ [])

-- the fields of the block that a frame ends, where they are shown
-- rule: show (own) With --json each line is a JSON object
abbrev pub listing_members : Option Listing → List JsonMember
listing_members None = []
listing_members (Some (listed fields)) =
    (codes "fields", array_of (map field_json fields)) ∷ []
listing_members (Some too_large) = []

-- the object of a frame
-- rule: show (own) With --json each line is a JSON object
abbrev pub frame_json : (at : ℕ) → Frame → Option Listing → json.Json
frame_json at frame listing = object_of (first_members at (type_name (kind_of_frame frame))
    ++ ((codes "stream", number_of_json (stream_of frame))
    ∷ (codes "length", number_of_json (length (payload_of frame))) ∷ [])
    ++ more_members frame ++ listing_members listing)

-- a JSON value as a line
-- rule: show (own) With --json each line is a JSON object
abbrev pub json_text : json.Json → List ℕ
json_text value = print (json_tokens value) ++ codes "\n"

-- the line that a list is too large to be shown, after that of its frame
-- rule: show (own) With --json each line is a JSON object
abbrev pub too_large_text : (at : ℕ) → Option Listing → List ℕ
too_large_text at None = []
too_large_text at (Some (listed fields)) = []
too_large_text at (Some too_large) =
    json_text (object_of (first_members at (codes "list too large")))

-- A line as JSON. A fault's place is that of the octet at fault.
-- rule: show (own) With --json each line is a JSON object
abbrev pub json_line : (at : ℕ) → ShowLine → List ℕ
json_line at preface_shown = json_text (object_of (first_members at (codes "preface")))
json_line at (frame_shown frame listing) =
    json_text (frame_json at frame listing) ++ too_large_text at listing
json_line at (fault_shown code place) = json_text (object_of (first_members place (codes "fault")
    ++ (codes "code", number_of_json (code_number code))
    ∷ (codes "name", json.string (name_of code)) ∷ []))
json_line at (rest_shown count) = json_text (object_of (first_members at (codes "rest")
    ++ (codes "octets", number_of_json count) ∷ []))
json_line at unfinished_shown =
    json_text (object_of (first_members at (codes "unfinished block")))

-- ---- what is written for a value, a token at a time

-- the tokens of members
abbrev pub member_tokens : JsonMember → List Token
member_tokens one = Token.key one.0 ∷ json_tokens one.1

abbrev pub members_written : List JsonMember → List Token
members_written members = flat_map member_tokens members

-- These tokens were written, after what was written before.
pub record WritesTokens {E : Type 0} (result : Result (Unit {0}) E) (old new : Written)
    (tokens : List Token) : Type 0 where
  pub ok : OnOk result (new.tokens ≡ old.tokens ++ tokens)
  pub before : new.before ≡ old.before
