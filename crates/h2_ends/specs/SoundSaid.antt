-- When what an end was given to say breaks no rule so far.
use Rattle.std.specs.Prelude.{◌≡◌, true, false, length, None}
use Rattle.h2_message.specs.declared.reading.Reads.{Reads}
use Rattle.h2_message.specs.declared.reading.Reads.TheVariants.{Requests, Responses}
use Rattle.h2_message.specs.Lengths.{length_to_send, breaks_length, broken_by_head}
use Rattle.h2_message.specs.Messages.{SentMessage, broken_by_request, broken_by_response}
use Rattle.h2_message.specs.Messages.{first_broken, trailer_rules, trailer_fields}
use Rattle.h2_laws_pair.specs.Tokens.{Form, AtOnce, Begun, Ended, Said}

-- The message breaks no rule so far that was given in this form, for one who reads this.
-- rule (law): 8.1 (own) What has come of a message that breaks no rule can be read
unfoldable pub IsSoundForm : Reads → Form → SentMessage → Type 0
IsSoundForm reads (Begun number) message =
    (broken_by_head reads message.head ≡ None) × (number ≡ length_to_send reads message.head)
    × (breaks_length number (length message.body) false ≡ false) × (message.trailers ≡ None)
IsSoundForm reads Ended message =
    (broken_by_head reads message.head ≡ None)
    × (breaks_length (length_to_send reads message.head) (length message.body) true ≡ false)
    × (first_broken (trailer_rules (trailer_fields message.trailers)) ≡ None)
IsSoundForm Requests AtOnce message = broken_by_request message ≡ None
IsSoundForm (Responses to_head) AtOnce message = broken_by_response to_head message ≡ None

-- What an end was given to say breaks no rule so far, for one who reads this: a message that was
-- given whole; the head and the octets so far of one that was begun; or all of one that was ended.
-- rule (law): 8.1 (own) What has come of a message that breaks no rule can be read
unfoldable pub IsSoundSaid : Reads → Said → Type 0
IsSoundSaid reads said = IsSoundForm reads said.form said.message
