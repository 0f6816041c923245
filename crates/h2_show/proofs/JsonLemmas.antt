-- The tokens of objects and arrays are those of their members and values.
use Rattle.h2_show.proofs.Names.{◌≡◌, ℕ, ◌+◌, List, [], ◌∷◌, ◌++◌, take, map, flat_map, refl, ap, sym}
use Rattle.h2_show.proofs.Names.{◌∙◌, append_assoc, append-nil, flat_map-append, map-append, Some}
use Rattle.h2_show.proofs.Names.{Field, Option, subst, Frame, Listing, length, Result, on_ok_weaker, Bool, true, false, codes, if◌then◌else◌}
use Rattle.std.proofs.Common.{get_or, decimal}
use Rattle.std.proofs.lemmas.List.{take_more}
use Rattle.std.proofs.lemmas.Option.{slice_get_within, get_or_from_slice_get}
use Rattle.std.specs.List.{slice_get}
use Rattle.hex.specs.Hex.{encode_lower}
use Rattle.std.specs.Str.{is_utf8}
use Rattle.json.specs.Json as json
use Rattle.json.specs.Print.{print}
use Rattle.json.specs.Token.{Token}
use Rattle.json.specs.Written.{Written, Writes}
use Rattle.json.specs.Tree.{items_tokens, json_tokens, members_tokens}
use Rattle.h2_show.specs.JsonLines.{array_of, field_json, object_of}
use Rattle.h2_show.specs.JsonLines.{JsonMember, json_items, member_tokens, members_of}
use Rattle.h2_frame.specs.Encoding.{kind_of_frame, payload_of, stream_of}
use Rattle.h2_show.specs.JsonLines.{first_members, frame_json, json_text, listing_members}
use Rattle.h2_show.specs.JsonLines.{more_members, number_of_json, octets_member, type_name}
use Rattle.h2_show.specs.JsonLines.{members_written, WritesTokens}

-- the members of an object, and its end
pub object_tokens : (members : List JsonMember)
    → members_tokens (members_of members) ≡ members_written members ++ Token.end_object ∷ []
object_tokens [] = refl
object_tokens (one ∷ others) =
    ap (λ (rest : List Token). member_tokens one ++ rest) (object_tokens others)
    ∙ sym (append_assoc (member_tokens one) (members_written others) (Token.end_object ∷ []))

-- the values of an array, and its end
pub array_tokens : (values : List json.Json)
    → items_tokens (json_items values) ≡ flat_map json_tokens values ++ Token.end_array ∷ []
array_tokens [] = refl
array_tokens (one ∷ others) =
    ap (λ (rest : List Token). json_tokens one ++ rest) (array_tokens others)
    ∙ sym (append_assoc (json_tokens one) (flat_map json_tokens others) (Token.end_array ∷ []))

-- members, and others after them
pub members_append : (first second : List JsonMember)
    → members_written (first ++ second) ≡ members_written first ++ members_written second
members_append first second = flat_map-append member_tokens first second

-- tokens that were written, and others after them
pub written_then : {E : Type 0} (result : Result (Unit {0}) E) (old mid new : Written)
    (first second : List Token) → mid.tokens ≡ old.tokens ++ first → mid.before ≡ old.before
    → WritesTokens result mid new second → WritesTokens result old new (first ++ second)
written_then result old mid new first second tokens before last = record {
  ok = on_ok_weaker result (λ more. more ∙ ap (λ (some : List Token). some ++ second) tokens
      ∙ append_assoc old.tokens first second) last.ok;
  before = last.before ∙ before;
}

-- the same of two that have succeeded
pub tokens_then : (old mid new first second : List Token) → mid ≡ old ++ first
    → new ≡ mid ++ second → new ≡ old ++ (first ++ second)
tokens_then old mid new first second one two =
    two ∙ ap (λ (some : List Token). some ++ second) one ∙ append_assoc old first second

-- one token that was written
pub token_written : {E : Type 0} (result : Result (Unit {0}) E) (old new : Written) (token : Token)
    → Writes result old new token → WritesTokens result old new (token ∷ [])
token_written result old new token last = record { ok = last.ok; before = last.room.0 }

-- an array that was written under a key, value by value
pub array_written : {E : Type 0} (result : Result (Unit {0}) E)
    (old keyed opened filled new : Written) (name : List ℕ) (values : List json.Json)
    → keyed.tokens ≡ old.tokens ++ Token.key name ∷ [] → keyed.before ≡ old.before
    → opened.tokens ≡ keyed.tokens ++ Token.begin_array ∷ [] → opened.before ≡ keyed.before
    → filled.tokens ≡ opened.tokens ++ flat_map json_tokens values
    → filled.before ≡ opened.before → Writes result filled new Token.end_array
    → WritesTokens result old new (members_written ((name, array_of values) ∷ []))
array_written result old keyed opened filled new name values key before begin first all kept last =
    subst (λ (tokens : List Token). WritesTokens result old new tokens)
    (ap (λ (tokens : List Token). Token.key name ∷ Token.begin_array ∷ tokens)
    (sym (array_tokens values))
    ∙ sym (append-nil (Token.key name ∷ json_tokens (array_of values))))
    (written_then result old keyed new (Token.key name ∷ []) _ key before
    (written_then result keyed opened new (Token.begin_array ∷ []) _ begin first
    (written_then result opened filled new (flat_map json_tokens values) _ all kept
    (token_written result filled new Token.end_array last))))

-- an object that was written, member by member
pub object_written : {E : Type 0} (result : Result (Unit {0}) E) (old opened filled new : Written)
    (members : List JsonMember) → opened.tokens ≡ old.tokens ++ Token.begin_object ∷ []
    → opened.before ≡ old.before → filled.tokens ≡ opened.tokens ++ members_written members
    → filled.before ≡ opened.before → Writes result filled new Token.end_object
    → WritesTokens result old new (json_tokens (object_of members))
object_written result old opened filled new members begin before all kept last =
    subst (λ (tokens : List Token). WritesTokens result old new (Token.begin_object ∷ tokens))
    (sym (object_tokens members))
    (written_then result old opened new (Token.begin_object ∷ []) _ begin before
    (written_then result opened filled new (members_written members) _ all kept
    (token_written result filled new Token.end_object last)))

-- the tokens of values, with one more
pub values_next : {A : Type 0} (value : A → json.Json) (so_far : List A) (one : A)
    (old mid new : List Token) → mid ≡ old ++ flat_map json_tokens (map value so_far)
    → new ≡ mid ++ json_tokens (value one)
    → new ≡ old ++ flat_map json_tokens (map value (so_far ++ one ∷ []))
values_next value so_far one old mid new before last =
    last ∙ ap (λ (some : List Token). some ++ json_tokens (value one)) before
    ∙ append_assoc old _ _
    ∙ ap (λ (some : List Token). old ++ some)
    (ap (λ (some : List Token). flat_map json_tokens (map value so_far) ++ some)
    (sym (append-nil (json_tokens (value one))))
    ∙ sym (flat_map-append json_tokens (map value so_far) (value one ∷ []))
    ∙ ap (flat_map json_tokens) (sym (map-append value so_far (one ∷ []))))

-- the tokens of the fields so far, and of the next one
pub fields_next : (list : List Field) (place : ℕ) (next : Field) (old mid new : List Token)
    → slice_get list place ≡ Some next
    → mid ≡ old ++ flat_map json_tokens (map field_json (take place list))
    → new ≡ mid ++ json_tokens (field_json next)
    → new ≡ old ++ flat_map json_tokens (map field_json (take (place + 1) list))
fields_next list place next old mid new there before last =
    let within = slice_get_within list place next there in
    values_next field_json (take place list) next old mid new before last
    ∙ ap (λ (fields : List Field). old ++ flat_map json_tokens (map field_json fields))
    (sym (take_more list place next within
    ∙ ap (λ (one : Field). take place list ++ one ∷ [])
    (get_or_from_slice_get list place next next there)))

-- octets that are UTF-8
pub octets_as_text : (key octets : List ℕ) → is_utf8 octets ≡ true
    → member_tokens (octets_member key octets) ≡ Token.key key ∷ Token.string octets ∷ []
octets_as_text key octets is =
    ap (λ (text : Bool). member_tokens (if text then (key, json.string octets)
    else (key ++ codes "_hex", json.string (encode_lower octets)))) is

-- octets that are not
pub octets_as_hex : (key hex_key octets : List ℕ) → hex_key ≡ key ++ codes "_hex"
    → is_utf8 octets ≡ false
    → member_tokens (octets_member key octets)
    ≡ Token.key hex_key ∷ Token.string (encode_lower octets) ∷ []
octets_as_hex key hex_key octets named is =
    ap (λ (text : Bool). member_tokens (if text then (key, json.string octets)
    else (key ++ codes "_hex", json.string (encode_lower octets)))) is
    ∙ ap (λ (name : List ℕ). Token.key name ∷ Token.string (encode_lower octets) ∷ []) (sym named)

-- a member that is a number
abbrev number_written : (key : List ℕ) → ℕ → List Token
number_written key count = Token.key key ∷ Token.number (decimal count) ∷ []

-- the line of a frame, by the tokens after each step
pub json_frame_line : (at : ℕ) (frame : Frame) (listing : Option Listing) (name : List ℕ)
    (stream size : ℕ) (empty one two three four five : List Token) → empty ≡ []
    → one ≡ empty ++ (Token.begin_object ∷ members_written (first_members at name))
    → two ≡ one ++ number_written (codes "stream") stream
    → three ≡ two ++ number_written (codes "length") size
    → four ≡ three ++ members_written (more_members frame)
    → five ≡ four ++ members_written (listing_members listing)
    → name ≡ type_name (kind_of_frame frame) → stream ≡ stream_of frame
    → size ≡ length (payload_of frame)
    → print (five ++ Token.end_object ∷ []) ++ codes "\n" ≡ json_text (frame_json at frame listing)
json_frame_line at frame listing name stream size empty one two three four five none a b c d e named
    streamed sized =
    let more : List Token = members_written (more_members frame) in
    let last : List Token = members_written (listing_members listing) in
    let head : List ℕ → ℕ → ℕ → List Token = λ called number count.
    ((Token.begin_object ∷ members_written (first_members at called))
    ++ number_written (codes "stream") number) ++ number_written (codes "length") count in
    let members : List JsonMember = first_members at (type_name (kind_of_frame frame))
    ++ ((codes "stream", number_of_json (stream_of frame))
    ∷ (codes "length", number_of_json (length (payload_of frame))) ∷ [])
    ++ more_members frame ++ listing_members listing in
    let begun : three ≡ head name stream size =
    c ∙ ap (λ (some : List Token). some ++ number_written (codes "length") size)
    (b ∙ ap (λ (some : List Token). some ++ number_written (codes "stream") stream)
    (a ∙ ap (λ (some : List Token).
    some ++ (Token.begin_object ∷ members_written (first_members at name))) none)) in
    let all : five ≡ (head name stream size ++ more) ++ last =
    e ∙ ap (λ (some : List Token). some ++ last)
    (d ∙ ap (λ (some : List Token). some ++ more) begun) in
    let known : five ≡ Token.begin_object ∷ members_written members =
    all ∙ (λ i. (head (named i) (streamed i) (sized i) ++ more) ++ last)
    ∙ ap (λ (some : List Token). head (type_name (kind_of_frame frame)) (stream_of frame)
    (length (payload_of frame)) ++ some)
    (sym (members_append (more_members frame) (listing_members listing))) in
    ap (λ (some : List Token). print (some ++ Token.end_object ∷ []) ++ codes "\n") known
    ∙ ap (λ (some : List Token). print (Token.begin_object ∷ some) ++ codes "\n")
    (sym (object_tokens members))
