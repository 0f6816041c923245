-- Messages as they are read, part by part, and when what was read of a stream can be read: when it
-- begins a whole message that breaks no rule (RFC 9113, sections 8.1 and 8.1.1).
use Rattle.std.specs.Prelude.{◌≡◌, ℕ, Bool, true, false, if◌then◌else◌, List, [], ◌∷◌, ◌++◌}
use Rattle.std.specs.Prelude.{length, map, Option, Some, None}
use Rattle.std.specs.List.{AllByRecursion, sum_by}
use Rattle.hpack.specs.declared.types.field.Field.{Field}
use Rattle.h2_message.specs.declared.malformed.Malformed.{Malformed}
use Rattle.h2_message.specs.declared.reading.Reads.{Reads}
use Rattle.h2_message.specs.declared.reading.Reads.TheVariants.{Requests, Responses}
use Rattle.h2_message.specs.Fields.{declared_length}
use Rattle.h2_message.specs.Messages.{first_broken, request_head_rules, response_head_rules}
use Rattle.h2_message.specs.Messages.{interim_rules, trailer_rules, is_without_content, SentMessage}

-- a part of a message as it is read: a field block, or the octets of one DATA frame
pub data Part : Type 0 where
  FieldsPart : (list : List Field) → Part
  OctetsPart : (octets : List ℕ) → Part

-- The fields break none of these rules.
abbrev pub BreakNone : List (Bool × Malformed) → Type 0
BreakNone rules = first_broken rules ≡ None

-- the rules of the final head of what is read
-- rule: 8.3 A final head is read only where it breaks no rule of its fields
unfoldable pub final_rules : Reads → List Field → List (Bool × Malformed)
final_rules Requests head = request_head_rules head
final_rules (Responses to_head) head = response_head_rules head

-- a message as it is read: interim responses, the final head, the octets of each DATA frame, and
-- the trailers
-- rule: 8.1 (own) A part is read where the parts so far begin a well-formed message
pub record ReadMessage : Type 0 where
  pub interims : List (List Field)
  pub head : List Field
  pub data_parts : List (List ℕ)
  pub trailers : Option (List Field)

-- The sum of the lengths of its DATA is the length that the head declares; it isn't compared where
-- the response has no content (M11).
-- rule: 8.1.1 DATA that is read is as long as content-length says, or breaks M11
-- rule: 8.1.1 No length is compared in an answer to HEAD, in 204 and in 304
unfoldable pub compared_length : Reads → List Field → Option ℕ
compared_length Requests head = declared_length head
compared_length (Responses to_head) head =
    if is_without_content to_head head then None else declared_length head

-- rule: 8.1.1 DATA that is read is as long as content-length says, or breaks M11
unfoldable pub IsDeclared : Option ℕ → ℕ → Type 0
IsDeclared None sum = Unit {0}
IsDeclared (Some number) sum = number ≡ sum

-- rule: 8.1 M1, M2, M3 and M10 hold of trailers
unfoldable pub AreSoundTrailers : Option (List Field) → Type 0
AreSoundTrailers None = Unit {0}
AreSoundTrailers (Some fields) = BreakNone (trailer_rules fields)

-- Interim responses come before a final one alone.
-- rule: 8.1 Interim responses come before the final head, without END_STREAM
unfoldable pub AreSoundInterims : Reads → List (List Field) → Type 0
AreSoundInterims Requests interims = interims ≡ []
AreSoundInterims (Responses to_head) interims = AllByRecursion
    (λ fields. BreakNone (interim_rules fields)) interims

-- The message breaks none of M1 to M11 as read.
-- rule: 8.1 (own) A part is read where the parts so far begin a well-formed message
-- rule (law): 8.1 (own) A message that breaks no rule as sent breaks none as read
pub record IsWellRead (reads : Reads) (message : ReadMessage) : Type 0 where
  pub interims : AreSoundInterims reads message.interims
  pub head : BreakNone (final_rules reads message.head)
  pub trailers : AreSoundTrailers message.trailers
  pub declared : IsDeclared (compared_length reads message.head)
      (sum_by length message.data_parts)

-- rule: 8.1 A field block after the final head is the trailers, with END_STREAM
unfoldable pub trailers_parts : Option (List Field) → List Part
trailers_parts None = []
trailers_parts (Some fields) = FieldsPart fields ∷ []

-- the parts of the message from the final head on
-- rule: 8.1 A field block after the final head is the trailers, with END_STREAM
unfoldable pub final_parts : ReadMessage → List Part
final_parts message =
    FieldsPart message.head ∷ (map OctetsPart message.data_parts
    ++ trailers_parts message.trailers)

-- each part with whether it has END_STREAM: the last one alone has it
-- rule: 8.1 A field block after the final head is the trailers, with END_STREAM
-- rule: 8.1 END_STREAM ends the message, and any further part breaks M12
unfoldable pub ended : List Part → List (Part × Bool)
ended [] = []
ended (part ∷ []) = (part, true) ∷ []
ended (part ∷ (next ∷ parts)) = (part, false) ∷ ended (next ∷ parts)

-- a message that was sent, as it is read: its body in some DATA frames
-- rule (law): 8.1 (own) A message that breaks no rule as sent breaks none as read
abbrev pub as_read : SentMessage → (data_parts : List (List ℕ)) → ReadMessage
as_read message data_parts = record {
  interims = [];
  head = message.head;
  data_parts = data_parts;
  trailers = message.trailers;
}

-- what is read of a whole message, part by part. No order but this one is a message's (M12): an
-- interim head has no END_STREAM, no DATA comes before the final head, and a field block after that
-- ends the message.
-- rule: 8.1 (own) A part is read where the parts so far begin a well-formed message
-- rule: 8.1 DATA before the final head breaks M12
unfoldable pub message_parts : ReadMessage → List (Part × Bool)
message_parts message =
    map (λ fields. (FieldsPart fields, false)) message.interims ++ ended (final_parts message)

-- What was read of a stream, the first part first, begins a whole message that breaks none of the
-- rules as read.
-- rule: 8.1 (own) A part is read where the parts so far begin a well-formed message
-- rule: 8.1 DATA before the final head breaks M12
-- rule (law): 8.1 (own) What has come of a message that breaks no rule can be read
pub record IsReadable (reads : Reads) (parts : List (Part × Bool)) : Type 0 where
  pub message : ReadMessage
  pub more : List (Part × Bool)
  pub well : IsWellRead reads message
  pub begins : message_parts message ≡ parts ++ more
