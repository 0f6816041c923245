-- How long the body of a message may be that is sent in parts (RFC 9113, section 8.1.1).
use Rattle.std.specs.Prelude.{◌-◌, ℕ, nat_lt, ◌==◌, ◌||◌, ◌&&◌, not, Bool, true, false}
use Rattle.std.specs.Prelude.{if◌then◌else◌, List, ◌∷◌, ◌++◌, [], Option, Some, None}
use Rattle.hpack.specs.declared.types.field.Field.{Field}
use Rattle.h2_message.specs.declared.malformed.Malformed.{Malformed}
use Rattle.h2_message.specs.declared.malformed.Malformed.TheVariants.{BadLength}
use Rattle.h2_message.specs.declared.reading.Reads.{Reads}
use Rattle.h2_message.specs.declared.reading.Reads.TheVariants.{Requests, Responses}
use Rattle.h2_message.specs.Fields.{declared_length}
use Rattle.h2_message.specs.Messages.{first_broken, trailer_rules, is_without_content}
use Rattle.h2_message.specs.Reading.{final_rules}

-- the length that the body of an own message has to have, by its head: none at all where the
-- response has no content
-- rule: 8.1.1 A body to be sent that content-length denies breaks M11
-- rule: 8.1.1 A body of an own answer to HEAD, 204 or 304 breaks M11
unfoldable pub length_to_send : Reads → List Field → Option ℕ
length_to_send Requests head = declared_length head
length_to_send (Responses to_head) head =
    if is_without_content to_head head then Some 0 else declared_length head

-- Whether a body breaks M11 that has so many octets so far: more than it has to have, or, where
-- this is its end, another number.
-- rule: 8.1.1 A body to be sent that content-length denies breaks M11
unfoldable pub breaks_length : Option ℕ → (count : ℕ) → (end : Bool) → Bool
breaks_length None count end = false
breaks_length (Some number) count end =
    nat_lt number count || (end && not (number == count))

-- the length that the rest of a body has to have after so many octets
unfoldable pub length_after : Option ℕ → (count : ℕ) → Option ℕ
length_after None count = None
length_after (Some number) count = Some (number - count)

-- the rule that a final head breaks which is to be sent before its body
-- rule: 8.1.1 (own) A message to be sent is refused for the least of M1 to M11 it breaks
abbrev pub broken_by_head : Reads → List Field → Option Malformed
broken_by_head reads head = first_broken (final_rules reads head)

-- the rule that trailers break which end a body of so many octets
-- rule: 8.1 M1, M2, M3 and M10 hold of trailers
-- rule: 8.1.1 A body to be sent that content-length denies breaks M11
unfoldable pub broken_by_trailers : Option ℕ → (count : ℕ) → List Field → Option Malformed
broken_by_trailers number count fields =
    first_broken (trailer_rules fields ++ (breaks_length number count true, BadLength) ∷ [])
