-- What an end was given to say breaks no rule so far, as it is begun and with each part more.
use Rattle.h2_joined.proofs.Names
use Names.{◌≡◌, ◌≤◌, ◌+◌, ◌==◌, ℕ, Bool, true, false, List, ◌++◌, length, take, Option, Some}
use Names.{None, refl, subst, arith, Field, Reads, Responses, Said}
use Names.{broken_by_request, broken_by_response, take_all, length-take, SentMessage, IsSoundSaid}
use Names.{length-append, if◌then◌else◌}
use Rattle.std.specs.Prelude.{◌&&◌}
use Rattle.std.proofs.lemmas.Bool.{and_parts, eqb-true}
use Rattle.std.proofs.lemmas.Bool.Decides.{nat_tests}
use Rattle.h2_message.specs.Fields.{has_bad_name, has_bad_value, has_pseudo}
use Rattle.h2_message.specs.Fields.{has_connection_field}
use Rattle.h2_message.specs.Lengths.{length_to_send, breaks_length, broken_by_head}
use Rattle.h2_message.specs.declared.reading.Reads.TheVariants.{Requests}
use Rattle.h2_message.specs.Lengths.{broken_by_trailers}
use Rattle.h2_message.specs.Messages.{first_broken, trailer_rules, trailer_fields}
use Rattle.h2_laws_pair.specs.Tokens.{Begun, Ended, at_once}
use Rattle.h2_ends.specs.EndCalls.{begun, with_octets, with_trailers, breaks_with}
use Rattle.h2_ends.specs.SoundSaid.{IsSoundForm}
use Rattle.h2_message.proofs.ReadingRules.{none_hold, none_broken}

-- What a part more leaves of what was given breaks no rule where that broke none.
abbrev pub StaysSound : (before more : Said) → Type 0
StaysSound before more = (reads : Reads) → IsSoundSaid reads before → IsSoundSaid reads more

-- A body without octets is not too long.
none_breaks : (number : Option ℕ) → breaks_length number 0 false ≡ false
unfolding breaks_length
none_breaks None = refl
none_breaks (Some number) = grind (arith, nat_tests)

-- A head that breaks no rule is sound by itself,
pub sound_begun : (reads : Reads) (head : List Field) → broken_by_head reads head ≡ None
    → IsSoundSaid reads (begun reads head)
unfolding IsSoundSaid IsSoundForm
sound_begun reads head none = (none, refl, none_breaks (length_to_send reads head), refl)

-- What is not too long with octets more is not with fewer,
fewer_break : (number : Option ℕ) (count fewer more : ℕ) (end : Bool) → fewer ≤ more
    → breaks_length number (count + more) end ≡ false
    → breaks_length number (count + fewer) false ≡ false
unfolding breaks_length
fewer_break None count fewer more end less none = refl
fewer_break (Some number) count fewer more end less none = grind (arith, nat_tests)

-- and no trailers break no rule.
no_trailers : first_broken (trailer_rules (trailer_fields None)) ≡ None
unfolding first_broken trailer_rules trailer_fields has_bad_name has_bad_value has_pseudo
    has_connection_field
no_trailers = refl

-- So octets more of a body leave it sound, of which the first so many were sent, and the end where
-- these are all.
octets_sound : (reads : Reads) (number : Option ℕ) (message : SentMessage) (octets : List ℕ)
    (count : ℕ) (ends ended : Bool) → (ends && count == length octets) ≡ ended
    → breaks_length number (length message.body + length octets) ends ≡ false
    → IsSoundForm reads (Begun number) message
    → IsSoundForm reads (if ended then Ended else Begun number) (record {
      head = message.head;
      body = message.body ++ take count octets;
      trailers = None;
    })
unfolding IsSoundForm
octets_sound reads number message octets count ends true is none sound =
    let parts : (ends ≡ true) × ((count == length octets) ≡ true) = and_parts _ _ is in
    let all : take count octets ≡ octets =
    take_all count octets (omega (arith, eqb-true count (length octets) parts.1)) in (
      sound.0,
      rw (all, length-append, ← sound.1) (subst (λ (end : Bool). breaks_length number
          (length message.body + length octets) end ≡ false) parts.0 none),
      no_trailers,
    )
octets_sound reads number message octets count ends false is none sound = (
  sound.0,
  sound.1,
  rw length-append (fewer_break number (length message.body) (length (take count octets))
      (length octets) ends (omega (arith, length-take count octets)) none),
  refl,
)

pub sound_with_octets : (said : Said) (number : Option ℕ) (octets : List ℕ) (count : ℕ)
    (ends : Bool) → said.form ≡ Begun number → breaks_with said number octets ends ≡ false
    → StaysSound said (with_octets said (take count octets) (ends && count == length octets))
unfolding IsSoundSaid
sound_with_octets said number octets count ends form none reads sound =
    rw form (octets_sound reads number said.message octets count ends _ refl none
    (rw form at sound))

-- So do trailers that break none.
pub sound_with_trailers : (said : Said) (number : Option ℕ) (list : List Field)
    → said.form ≡ Begun number
    → broken_by_trailers number (length said.message.body) list ≡ None
    → StaysSound said (with_trailers said list)
unfolding IsSoundSaid IsSoundForm broken_by_trailers trailer_rules trailer_fields
sound_with_trailers said number list form none reads sound =
    let before : IsSoundForm reads (Begun number) said.message = rw form at sound in
    let hold = none_hold _ none in (
      before.0,
      rw (← before.1) hold.1.1.1.1.0,
      none_broken (trailer_rules list) (hold.0, (hold.1.0, (hold.1.1.0, (hold.1.1.1.0, tt)))),
    )

-- A whole message that breaks no rule is sound.
pub sound_request : (message : SentMessage) → broken_by_request message ≡ None
    → IsSoundSaid Requests (at_once message)
unfolding IsSoundSaid IsSoundForm
sound_request message none = none

pub sound_response : (to_head : Bool) (message : SentMessage)
    → broken_by_response to_head message ≡ None
    → IsSoundSaid (Responses to_head) (at_once message)
unfolding IsSoundSaid IsSoundForm
sound_response to_head message none = none
