-- What was handed out of what an end was given to say, and breaks no rule so far, can be read.
use Rattle.h2_ends.proofs.Names
use Names.{◌≡◌, ℕ, ◌+◌, ◌-◌, ◌≤◌, Bool, true, false, List, [], ◌∷◌, ◌++◌, length, Option, Some}
use Names.{None, refl, ap, ◌∙◌, append_assoc, arith, nat_tests, length-append, if◌then◌else◌}
use Names.{AllByRecursion, Field, Reads, Requests, Responses, SentMessage, Part, Token}
use Names.{FieldsToken, OctetToken, IsPrefixOfTokens, is_head_alone, trailers_tokens}
use Names.{tokens_of_parts, IsReadable, sent_request, sent_response}
use Rattle.std.proofs.Common.{map as each, replicate, sum_by}
use Rattle.std.proofs.lemmas.List.{length-replicate}
use Rattle.h2_message.proofs.LawSent.{sound_trailers}
use Rattle.h2_message.proofs.ReadingWhole.{no_interims}
use Rattle.h2_message.specs.Fields.{declared_length}
use Rattle.h2_message.specs.Lengths.{length_to_send, breaks_length, broken_by_head}
use Rattle.h2_message.specs.Messages.{is_without_content}
use Rattle.h2_message.specs.Reading.{IsDeclared, IsWellRead, AreSoundTrailers, as_read}
use Rattle.h2_message.specs.Reading.{compared_length}
use Rattle.h2_laws_pair.specs.Tokens.{Form, AtOnce, Begun, Ended, Said, said_tokens}
use Rattle.h2_ends.specs.Ends.{IsNoEmptyPart}
use Rattle.h2_ends.specs.SoundSaid.{IsSoundForm, IsSoundSaid}
use Rattle.h2_ends.proofs.ReadableParts.{rest_tokens, whole_tokens, readable_parts}

-- A length that an own response has to have is not compared where it has no content.
without_or_declared : (without : Bool) (declared : Option ℕ) (sum : ℕ)
    → IsDeclared (if without then Some 0 else declared) sum
    → IsDeclared (if without then None else declared) sum
unfolding IsDeclared
without_or_declared true declared sum is = tt
without_or_declared false declared sum is = is

-- So a body of the length that it has to have is as long as it is read to be.
compared_as_sent : (reads : Reads) (head : List Field) (sum : ℕ)
    → IsDeclared (length_to_send reads head) sum → IsDeclared (compared_length reads head) sum
unfolding length_to_send compared_length
compared_as_sent Requests head sum is = is
compared_as_sent (Responses to_head) head sum is =
    without_or_declared (is_without_content to_head head) (declared_length head) sum is

-- A body that may end has that length,
ended_length : (number : Option ℕ) (count : ℕ) → breaks_length number count true ≡ false
    → IsDeclared number count
unfolding breaks_length IsDeclared
ended_length None count sound = tt
ended_length (Some number) count sound = grind (arith, nat_tests)

-- and to one that may go on octets can be added until it has.
missing : (number : Option ℕ) (count : ℕ) → breaks_length number count false ≡ false
    → (octets : List ℕ) × IsDeclared number (count + length octets)
unfolding breaks_length IsDeclared
missing None count sound = ([], tt)
missing (Some number) count sound =
    let few : count ≤ number = grind (arith, nat_tests) in
    let more = length-replicate {A = ℕ} (number - count) 0 in
    (replicate (number - count) 0, omega (arith, more, few))

-- A message is well read whose head and trailers break no rule, and whose body has the length that
-- it has to have.
well_read : (reads : Reads) (message : SentMessage) (pieces : List (List ℕ))
    → broken_by_head reads message.head ≡ None → AreSoundTrailers message.trailers
    → IsDeclared (length_to_send reads message.head) (length message.body)
    → sum_by length pieces ≡ length message.body → IsWellRead reads (as_read message pieces)
well_read reads message pieces head trailers declared whole =
    record {
      interims = no_interims reads;
      head = head;
      trailers = trailers;
      declared = rw whole (compared_as_sent reads message.head (length message.body) declared);
    }

-- the tokens of a body and of more octets, after which the message ends
more_tokens : (body octets : List ℕ)
    → rest_tokens (body ++ octets) None
    ≡ (each OctetToken body ++ []) ++ rest_tokens octets None
more_tokens [] octets = refl
more_tokens (octet ∷ body) octets =
    ap (λ (line : List Token). OctetToken octet ∷ line) (more_tokens body octets)

-- What begins a message that was begun begins one with more octets.
begins_longer : (number : Option ℕ) (message : SentMessage) (octets : List ℕ)
    (tokens rest : List Token) → message.trailers ≡ None
    → said_tokens (record { message = message; form = Begun number }) ≡ tokens ++ rest
    → whole_tokens (record message { body = message.body ++ octets; trailers = None }) false
    ≡ tokens ++ (rest ++ rest_tokens octets None)
unfolding said_tokens trailers_tokens
begins_longer number message octets tokens rest none is =
    ap (λ (line : List Token). FieldsToken message.head false ∷ line)
    (more_tokens message.body octets)
    ∙ ap (λ (line : List Token). line ++ rest_tokens octets None) (rw none at is)
    ∙ append_assoc tokens rest (rest_tokens octets None)

-- By the form in which the message was given: one that was begun ends after the octets that are
-- missing.
readable_by_form : (reads : Reads) (form : Form) (message : SentMessage)
    (parts : List (Part × Bool)) → IsSoundForm reads form message
    → AllByRecursion IsNoEmptyPart parts
    → IsPrefixOfTokens (tokens_of_parts parts)
    (said_tokens (record { message = message; form = form })) → IsReadable reads parts
unfolding IsSoundForm said_tokens AreSoundTrailers
readable_by_form reads (Begun number) message parts sound say prefix =
    let more = missing number (length message.body) sound.2 in
    let longer : SentMessage = record message { body = message.body ++ more.0; trailers = None } in
    let declared : IsDeclared (length_to_send reads longer.head) (length longer.body) =
    rw (length-append message.body more.0, ← sound.1) more.1 in
    readable_parts reads longer false parts
    (λ pieces. well_read reads longer pieces sound.0 tt declared) say (
      prefix.0 ++ rest_tokens more.0 None,
      begins_longer number message more.0 (tokens_of_parts parts) prefix.0 sound.3 prefix.1,
    )
readable_by_form reads Ended message parts sound say prefix =
    let declared =
    ended_length (length_to_send reads message.head) (length message.body) sound.1 in
    readable_parts reads message false parts
    (λ pieces. well_read reads message pieces sound.0 (sound_trailers message.trailers sound.2)
    declared) say prefix
readable_by_form Requests AtOnce message parts sound say prefix =
    readable_parts Requests message (is_head_alone message) parts
    (λ pieces. sent_request message pieces sound) say prefix
readable_by_form (Responses to_head) AtOnce message parts sound say prefix =
    readable_parts (Responses to_head) message (is_head_alone message) parts
    (λ pieces. sent_response to_head message pieces sound) say prefix

-- What has come of it can be read.
pub sound_parts_are_readable : (reads : Reads) (said : Said) (parts : List (Part × Bool))
    → IsSoundSaid reads said → AllByRecursion IsNoEmptyPart parts
    → IsPrefixOfTokens (tokens_of_parts parts) (said_tokens said) → IsReadable reads parts
unfolding IsSoundSaid
sound_parts_are_readable reads said = readable_by_form reads said.form said.message
