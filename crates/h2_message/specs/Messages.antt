-- Messages, and which of the rules one breaks first (RFC 9113, section 8).
use Rattle.std.specs.Prelude.{ℕ, nat_lt, ◌==◌, ◌||◌, not, Bool, false, if◌then◌else◌}
use Rattle.std.specs.Prelude.{List, [], ◌∷◌, ◌++◌, length, codes, Option, Some, None}
use Rattle.std.specs.Str.{bytes_eq}
use Rattle.hpack.specs.declared.types.field.Field.{Field}
use Rattle.h2_message.specs.declared.malformed.Malformed.{Malformed}
use Rattle.h2_message.specs.declared.malformed.Malformed.TheVariants.{BadName, BadValue}
use Rattle.h2_message.specs.declared.malformed.Malformed.TheVariants.{PseudoPlace, PseudoTwice}
use Rattle.h2_message.specs.declared.malformed.Malformed.TheVariants.{PseudoUnknown}
use Rattle.h2_message.specs.declared.malformed.Malformed.TheVariants.{PseudoMissing, BadMethod}
use Rattle.h2_message.specs.declared.malformed.Malformed.TheVariants.{BadPath, BadStatus}
use Rattle.h2_message.specs.declared.malformed.Malformed.TheVariants.{ConnectionField, BadLength}
use Rattle.h2_message.specs.declared.kind.Kind.{Kind}
use Rattle.h2_message.specs.declared.kind.Kind.TheVariants.{Request, Response}
use Rattle.h2_message.specs.Fields.{has_bad_name, has_bad_value}
use Rattle.h2_message.specs.Fields.{has_late_pseudo, has_pseudo, has_unknown_pseudo}
use Rattle.h2_message.specs.Fields.{has_pseudo_twice, lacks_pseudo, has_bad_method, has_bad_path}
use Rattle.h2_message.specs.Fields.{has_bad_status, is_interim, has_connection_field}
use Rattle.h2_message.specs.Fields.{has_bad_length, declared_length, method_of, status_of}

-- a message that an end is given for a stream: its head, its body, and its trailers if it has any
-- rule (law): 8.1 (own) A message that breaks no rule as sent breaks none as read
pub record SentMessage : Type 0 where
  pub head : List Field
  pub body : List ℕ
  pub trailers : Option (List Field)

-- a field that may be put into a table
abbrev pub plain_field : (name value : List ℕ) → Field
plain_field name value = record { name = name; value = value; sensitive = false }

-- the pseudo-fields of a request over `http` (section 8.3.1)
unfoldable pub request_head : (method authority path : List ℕ) → List Field
request_head method authority path =
    plain_field (codes ":method") method ∷ plain_field (codes ":scheme") (codes "http")
    ∷ plain_field (codes ":authority") authority ∷ plain_field (codes ":path") path ∷ []

-- the pseudo-field of a response (section 8.3.2)
unfoldable pub response_head : (status : List ℕ) → List Field
response_head status = plain_field (codes ":status") status ∷ []

-- the first rule whose condition holds
-- rule: 8.1.1 (own) A message to be sent is refused for the least of M1 to M11 it breaks
unfoldable pub first_broken : List (Bool × Malformed) → Option Malformed
first_broken [] = None
first_broken ((holds, rule) ∷ rules) = if holds then Some rule else first_broken rules

-- the fields of the trailers; none where there are no trailers
-- rule: 8.1 M1, M2, M3 and M10 hold of trailers
unfoldable pub trailer_fields : Option (List Field) → List Field
trailer_fields None = []
trailer_fields (Some fields) = fields

-- Whether a head says that its body has another length than this.
-- rule: 8.1.1 A body to be sent that content-length denies breaks M11
unfoldable pub differs_from : Option ℕ → ℕ → Bool
differs_from None sum = false
differs_from (Some number) sum = not (number == sum)

-- Whether a response has no content, whatever its `content-length` says: an answer to HEAD, 204 and
-- 304 (section 8.1.1; RFC 9110, section 6.4.1).
-- rule: 8.1.1 A body of an own answer to HEAD, 204 or 304 breaks M11
-- rule: 8.1.1 No length is compared in an answer to HEAD, in 204 and in 304
unfoldable pub is_without_content : (to_head : Bool) → (head : List Field) → Bool
is_without_content to_head head =
    to_head || bytes_eq (status_of head) (codes "204") || bytes_eq (status_of head) (codes "304")

-- the rules of every head, in order (M1 to M6)
-- rule: 8.3 A final head is read only where it breaks no rule of its fields
unfoldable pub head_rules : Kind → List Field → List (Bool × Malformed)
head_rules kind head =
    (has_bad_name head, BadName) ∷ (has_bad_value head, BadValue)
    ∷ (has_late_pseudo head, PseudoPlace) ∷ (has_unknown_pseudo kind head, PseudoUnknown)
    ∷ (has_pseudo_twice kind head, PseudoTwice) ∷ (lacks_pseudo kind head, PseudoMissing) ∷ []

-- the further rules of the final head of a message (M7 to M11, of M11 what its texts say)
-- rule: 8.3 A final head is read only where it breaks no rule of its fields
unfoldable pub request_head_rules : List Field → List (Bool × Malformed)
request_head_rules head =
    head_rules Request head ++ (has_bad_method head, BadMethod) ∷ (has_bad_path head, BadPath)
    ∷ (has_connection_field head, ConnectionField) ∷ (has_bad_length head, BadLength) ∷ []

-- rule: 8.3 A final head is read only where it breaks no rule of its fields
unfoldable pub response_head_rules : List Field → List (Bool × Malformed)
response_head_rules head =
    head_rules Response head ++ (has_bad_status head || is_interim head, BadStatus)
    ∷ (has_connection_field head, ConnectionField) ∷ (has_bad_length head, BadLength) ∷ []

-- the rules of the head of an interim response; its `content-length` may be anything
-- rule: 8.1 Interim responses come before the final head, without END_STREAM
unfoldable pub interim_rules : List Field → List (Bool × Malformed)
interim_rules head =
    head_rules Response head ++ (has_bad_status head || not (is_interim head), BadStatus)
    ∷ (has_connection_field head, ConnectionField) ∷ []

-- the rules of trailers
-- rule: 8.1 M1, M2, M3 and M10 hold of trailers
unfoldable pub trailer_rules : List Field → List (Bool × Malformed)
trailer_rules trailers =
    (has_bad_name trailers, BadName) ∷ (has_bad_value trailers, BadValue)
    ∷ (has_pseudo trailers, PseudoPlace) ∷ (has_connection_field trailers, ConnectionField) ∷ []

-- Whether the length of a response's body is wrong: one without content has none (own number), and
-- its `content-length` is not compared.
-- rule: 8.1.1 A body to be sent that content-length denies breaks M11
-- rule: 8.1.1 A body of an own answer to HEAD, 204 or 304 breaks M11
unfoldable pub has_wrong_body : (to_head : Bool) → SentMessage → Bool
has_wrong_body to_head message =
    if is_without_content to_head message.head then nat_lt 0 (length message.body)
    else differs_from (declared_length message.head) (length message.body)

-- the rules of a request that an end is to send, in order: each of the head's and of the trailers'
-- rule: 8.1.1 (own) A message to be sent is refused for the least of M1 to M11 it breaks
unfoldable pub request_rules : SentMessage → List (Bool × Malformed)
request_rules message = let trailers = trailer_fields message.trailers in
    (has_bad_name message.head || has_bad_name trailers, BadName)
    ∷ (has_bad_value message.head || has_bad_value trailers, BadValue)
    ∷ (has_late_pseudo message.head || has_pseudo trailers, PseudoPlace)
    ∷ (has_unknown_pseudo Request message.head, PseudoUnknown)
    ∷ (has_pseudo_twice Request message.head, PseudoTwice)
    ∷ (lacks_pseudo Request message.head, PseudoMissing)
    ∷ (has_bad_method message.head, BadMethod)
    ∷ (has_bad_path message.head, BadPath)
    ∷ (has_connection_field message.head || has_connection_field trailers, ConnectionField)
    ∷ (
      has_bad_length message.head
          || differs_from (declared_length message.head) (length message.body),
      BadLength,
    )
    ∷ []

-- the rules of a response that an end is to send, in order; interim responses aren't sent (own)
-- rule: 8.1.1 (own) A message to be sent is refused for the least of M1 to M11 it breaks
-- rule: 8.1 (own) No interim response is sent: a status 100 to 199 breaks M9
unfoldable pub response_rules : (to_head : Bool) → SentMessage → List (Bool × Malformed)
response_rules to_head message = let trailers = trailer_fields message.trailers in
    (has_bad_name message.head || has_bad_name trailers, BadName)
    ∷ (has_bad_value message.head || has_bad_value trailers, BadValue)
    ∷ (has_late_pseudo message.head || has_pseudo trailers, PseudoPlace)
    ∷ (has_unknown_pseudo Response message.head, PseudoUnknown)
    ∷ (has_pseudo_twice Response message.head, PseudoTwice)
    ∷ (lacks_pseudo Response message.head, PseudoMissing)
    ∷ (has_bad_status message.head || is_interim message.head, BadStatus)
    ∷ (has_connection_field message.head || has_connection_field trailers, ConnectionField)
    ∷ (has_bad_length message.head || has_wrong_body to_head message, BadLength)
    ∷ []

-- the rule that a request, or a response, breaks, the least one of several
-- rule: 8.1.1 (own) A message to be sent is refused for the least of M1 to M11 it breaks
abbrev pub broken_by_request : SentMessage → Option Malformed
broken_by_request message = first_broken (request_rules message)

-- rule: 8.1.1 (own) A message to be sent is refused for the least of M1 to M11 it breaks
abbrev pub broken_by_response : (to_head : Bool) → SentMessage → Option Malformed
broken_by_response to_head message = first_broken (response_rules to_head message)

-- Whether a request asks with HEAD.
-- rule: HTTP 9.3.2 A request asks with HEAD where the method of its head is HEAD
abbrev pub asks_head : List Field → Bool
asks_head head = bytes_eq (method_of head) (codes "HEAD")
