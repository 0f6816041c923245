-- The request that the words after `get` ask for.
use Rattle.std.specs.Prelude.{◌≡◌, ℕ, ◌==◌, ◌||◌, Bool, true, false, List, [], ◌∷◌, ◌++◌, map}
use Rattle.std.specs.Prelude.{position, reverse}
use Rattle.std.specs.Prelude.{codes, unwrap_or, is_some, Option, Some, None, if◌then◌else◌, IfSome}
use Rattle.std.specs.Prelude.{MatchBool}
use Rattle.std.specs.List.{list_all, list_any, before_first, after_first}
use Rattle.std.specs.Str.{bytes_eq}
use Rattle.std.specs.Char.{to_ascii_lowercase}
use Rattle.hpack.specs.declared.types.field.Field.{Field}
use Rattle.h2_message.specs.Messages.{SentMessage, broken_by_request, plain_field}
use Rattle.h2_net.specs.declared.location.Location.{Location}
use Rattle.h2_net.specs.Fetching.{pseudo_fields_to}
use Rattle.h2_args.specs.Words.{GetWords}
use Rattle.h2_get.specs.declared.body.BodyFault.{BodyFault}
use Rattle.h2_get.specs.declared.body.BodyFault.TheVariants as bodies
use Rattle.h2_get.specs.declared.request.RequestFault.{RequestFault}
use Rattle.h2_get.specs.declared.request.RequestFault.TheVariants as faults

-- whether an octet is a colon
abbrev pub is_colon : ℕ → Bool
is_colon octet = octet == 58

-- whether a word is NAME:VALUE: it has a colon
-- rule: engines (own) The words of get make its request and say what is printed
abbrev pub has_colon : (word : List ℕ) → Bool
has_colon word = is_some (position is_colon word)

-- whether an octet is a space or a tab
abbrev pub is_outer_blank : ℕ → Bool
is_outer_blank octet = octet == 32 || octet == 9

-- octets without the blanks that they begin with
abbrev pub skip_blanks : List ℕ → List ℕ
skip_blanks [] = []
skip_blanks (octet ∷ octets) = if is_outer_blank octet then skip_blanks octets else octet ∷ octets

-- octets without the blanks at both ends: white space there is no part of a value (RFC 9110,
-- section 5.5)
-- rule: engines (own) The words of get make its request and say what is printed
abbrev pub without_outer_blanks : List ℕ → List ℕ
without_outer_blanks octets = reverse (skip_blanks (reverse (skip_blanks octets)))

-- The field of a word NAME:VALUE: its name is what precedes the first colon, in lower case
-- (RFC 9113, section 8.2.1), and its value what follows, without the blanks at both ends.
-- rule: engines (own) The words of get make its request and say what is printed
abbrev pub field_of_word : (word : List ℕ) → Field
field_of_word word = plain_field (map to_ascii_lowercase (before_first is_colon word))
    (without_outer_blanks (after_first is_colon word))

-- the method that the words name, or else POST where they give a body, and GET where they don't
-- rule: engines (own) The words of get make its request and say what is printed
abbrev pub method_asked : GetWords → List ℕ
method_asked words =
    unwrap_or words.method (if is_some words.body then codes "POST" else codes "GET")

-- the word that gives the body, which is empty where they give none
-- rule: engines (own) The words of get make its request and say what is printed
abbrev pub body_word : GetWords → List ℕ
body_word words = unwrap_or words.body []

-- whether octets begin with `@`
-- rule: engines (own) The words of get make its request and say what is printed
abbrev pub begins_with_at : List ℕ → Bool
begins_with_at [] = false
begins_with_at (octet ∷ octets) = octet == 64

-- whether the body is that of standard input, which `@-` names
-- rule: engines (own) The words of get make its request and say what is printed
abbrev pub reads_input : GetWords → Bool
reads_input words = bytes_eq (body_word words) (codes "@-")

-- These octets are the body that the words ask for, at a reader with these octets left: all of them
-- where the word is `@-`; those of the file that the word names after an `@`, of which nothing is
-- known; or else the word.
-- rule: engines (own) The words of get make its request and say what is printed
abbrev pub IsBodyAsked : GetWords → (remaining : Option (List ℕ)) → (body : List ℕ) → Type 0
IsBodyAsked words remaining body =
    MatchBool (reads_input words) (IfSome remaining (λ given. body ≡ given))
    (MatchBool (begins_with_at (body_word words)) (Unit {0}) (body ≡ body_word words))

-- Why the body can't be had: only where the words name standard input or a file. Out of memory says
-- nothing.
-- rule: engines (own) The words of get make its request and say what is printed
abbrev pub IsUnread : GetWords → BodyFault → Type 0
IsUnread words bodies.Memory = Unit {0}
IsUnread words fault = begins_with_at (body_word words) ≡ true

-- The request for a location: the pseudo-fields (RFC 9113, section 8.3.1), the fields of the words
-- in their order, and the body. It has no other field, and no trailers.
-- rule: engines (own) The words of get make its request and say what is printed
abbrev pub request_asked : GetWords → (body : List ℕ) → Location → SentMessage
request_asked words body location = record {
  head = pseudo_fields_to (method_asked words) location ++ map field_of_word words.fields;
  body = body;
  trailers = None;
}

-- whether a field is named `host`: in a request of HTTP/2 that is `:authority`, which the URL
-- gives, and the two must not differ (RFC 9113, section 8.3.1)
-- rule: engines (own) The words of get make its request and say what is printed
abbrev pub has_host : List Field → Bool
has_host fields = list_any (λ field. bytes_eq field.name (codes "host")) fields

-- The words ask for a request with this body: each field is NAME:VALUE and none is `host`, and the
-- request breaks no rule of messages (section 8).
-- rule: engines (own) The words of get make its request and say what is printed
pub record IsAskable (words : GetWords) (body : List ℕ) (location : Location) : Type 0 where
  pub fields : list_all has_colon words.fields ≡ true
  pub host : has_host (request_asked words body location).head ≡ false
  pub unbroken : broken_by_request (request_asked words body location) ≡ None

-- Why no field can be made of a word: it has no colon. Out of memory says nothing.
abbrev pub IsRefusedWord : (word : List ℕ) → RequestFault → Type 0
IsRefusedWord word faults.NoColon = has_colon word ≡ false
IsRefusedWord word faults.Memory = Unit {0}
IsRefusedWord word fault = ⊥

-- Why fields can't be made of words: one has no colon. Out of memory says nothing.
abbrev pub AreRefusedWords : (words : List (List ℕ)) → RequestFault → Type 0
AreRefusedWords words faults.NoColon = list_all has_colon words ≡ false
AreRefusedWords words faults.Memory = Unit {0}
AreRefusedWords words fault = ⊥

-- Why no request can be made: a word is no NAME:VALUE; one is `host`; or the request breaks a rule,
-- this one first. Out of memory says nothing.
-- rule: engines (own) The words of get make its request and say what is printed
abbrev pub IsRefusedRequest : GetWords → (body : List ℕ) → Location → RequestFault → Type 0
IsRefusedRequest words body location faults.NoColon = list_all has_colon words.fields ≡ false
IsRefusedRequest words body location faults.Host =
    has_host (request_asked words body location).head ≡ true
IsRefusedRequest words body location (faults.Malformed rule) =
    broken_by_request (request_asked words body location) ≡ Some rule
IsRefusedRequest words body location faults.Memory = Unit {0}
