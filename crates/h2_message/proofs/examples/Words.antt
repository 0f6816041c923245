-- The words of the examples: fields and messages of texts, and what is said of each of a list.
use Prim.Native.String.{String}
use Rattle.std.specs.Prelude.{ℕ, false, List, [], ◌∷◌, map, replicate, codes, Option, Some, None}
use Rattle.h2_message.specs.Octets.{is_bad_value}
use Rattle.h2_message.proofs.Names
use Names.{Field, Malformed, is_bad_in_name, is_bad_after_first, is_bad_name, is_bad_in_value}
use Names.{is_blank, begins_blank, is_token_octet, is_token, is_bad_method}
use Names.{begins_with_slash, is_bad_path, is_status_code, is_bad_status, is_interim_status}
use Names.{is_bad_length, number_written, is_colon_first, is_pseudo, is_regular, is_named, value_of}
use Names.{pseudo_names, required_names, has_bad_name, has_bad_value, has_late_pseudo, has_pseudo}
use Names.{is_unknown_pseudo, has_unknown_pseudo, has_pseudo_twice, lacks_pseudo, or_nothing}
use Names.{value_or_nothing, has_bad_method, has_bad_path, has_bad_status, is_interim}
use Names.{connection_names, is_connection_field, has_connection_field, lengths_of, differ}
use Names.{has_bad_length, first_number, declared_length, SentMessage, first_broken, trailer_fields}
use Names.{differs_from, is_without_content, head_rules, request_head_rules, response_head_rules}
use Names.{interim_rules, trailer_rules, has_wrong_body, request_rules, response_rules}
use Names.{broken_by_request, broken_by_response, final_rules, compared_length, trailers_parts}
use Names.{final_parts, ended, message_parts, IsDeclared, AreSoundTrailers, AreSoundInterims}
use Names.{is_short, phase_in_body, phase_after_final, phase_after_head, phase_after_data}
use Names.{phase_after, phase_after_all, asks_head_first, ends_message, place_at_head, place_in}
use Names.{length_to_send, breaks_length, length_after, broken_by_trailers}
use Rattle.h2_message.specs.Broken.{rules_of_head, rules_of_part, broken_in}

-- opens all that computes
unfoldable pub computing : Unit {0}
unfolding is_bad_in_name is_bad_after_first is_bad_name is_bad_in_value is_blank begins_blank
    is_bad_value is_token_octet is_token is_bad_method begins_with_slash is_bad_path
    is_status_code is_bad_status is_interim_status is_bad_length number_written is_colon_first
    is_pseudo is_regular is_named value_of pseudo_names required_names has_bad_name
    has_bad_value has_late_pseudo has_pseudo is_unknown_pseudo has_unknown_pseudo
    has_pseudo_twice lacks_pseudo or_nothing value_or_nothing has_bad_method has_bad_path
    has_bad_status is_interim connection_names is_connection_field has_connection_field
    lengths_of differ has_bad_length first_number declared_length first_broken trailer_fields
    differs_from is_without_content head_rules request_head_rules response_head_rules
    interim_rules trailer_rules has_wrong_body request_rules response_rules final_rules
    compared_length trailers_parts final_parts ended message_parts IsDeclared AreSoundTrailers
    AreSoundInterims is_short phase_in_body phase_after_final phase_after_head phase_after_data
    phase_after phase_after_all asks_head_first ends_message place_at_head place_in
    length_to_send breaks_length length_after broken_by_trailers rules_of_head rules_of_part
    broken_in
computing = tt

-- a field of two texts
abbrev pub field : String → String → Field
field name value = record { name = codes name; value = codes value; sensitive = false }

-- a body of so many octets
abbrev pub body_of : ℕ → List ℕ
body_of count = replicate count 0x78

-- messages: a head alone, one with a body of so many octets, and one with trailers
abbrev pub head_alone : List Field → SentMessage
head_alone head = record { head = head; body = []; trailers = None }

abbrev pub with_body : List Field → ℕ → SentMessage
with_body head count = record { head = head; body = body_of count; trailers = None }

abbrev pub with_trailers : List Field → List Field → SentMessage
with_trailers head trailers = record { head = head; body = []; trailers = Some trailers }

-- the rules that requests break which are heads alone, and responses that don't answer HEAD
abbrev pub of_requests : List (List Field) → List (Option Malformed)
of_requests heads = map (λ head. broken_by_request (head_alone head)) heads

abbrev pub of_responses : List (List Field) → List (Option Malformed)
of_responses heads = map (λ head. broken_by_response false (head_alone head)) heads

-- a GET request; the one of the tables
abbrev pub r : List Field
r =
    field ":method" "GET" ∷ field ":scheme" "http" ∷ field ":path" "/"
    ∷ field ":authority" "www.example.com" ∷ []

-- the pseudo-fields of a request, with this method and this path
abbrev pub asking : String → String → List Field
asking method path = field ":method" method ∷ field ":scheme" "http" ∷ field ":path" path ∷ []

-- the head of a response
abbrev pub answering : String → List Field
answering status = field ":status" status ∷ []
