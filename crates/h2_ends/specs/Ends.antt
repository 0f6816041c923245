-- What has happened at a client or a server: its connection's log, the messages that it was given,
-- whole or in parts, and what it has handed out (RFC 9113, section 8.1).
use Rattle.std.specs.Prelude.{◌≡◌, ◌≢◌, ◌⊎◌, ℕ, ◌==◌, Bool, true, false, if◌then◌else◌, List}
use Rattle.std.specs.Prelude.{[], ◌∷◌, ◌++◌, length, drop, map as each, Option, Some, None}
use Rattle.hpack.specs.declared.types.field.Field.{Field}
use Rattle.h2_frame.specs.declared.code.Code.{Code}
use Rattle.h2_spec_log.specs.Events.{Event, FieldsEvent, DataEvent}
use Rattle.h2_spec_log.specs.Settings.{is_server}
use Rattle.h2_spec_log.specs.Log.{Log}
use Rattle.h2_message.specs.declared.malformed.Malformed.{Malformed}
use Rattle.h2_message.specs.declared.reading.Reads.{Reads}
use Rattle.h2_message.specs.declared.reading.Reads.TheVariants.{Requests, Responses}
use Rattle.h2_message.specs.declared.reading.Place.{Place}
use Rattle.h2_message.specs.declared.reading.Place.TheVariants as places
use Rattle.h2_message.specs.Messages.{asks_head}
use Rattle.h2_message.specs.Reading.{Part, FieldsPart, OctetsPart}
use Rattle.h2_message.specs.Phases.{place_after}
use Rattle.h2_laws_pair.specs.Tokens.{Token, FieldsToken, OctetToken, end_tokens, tokens_sent}
use Rattle.h2_laws_pair.specs.Tokens.{Said, said_tokens}
use Rattle.h2_ends.specs.declared.span.Turn.{Turn}

-- what an end hands out
pub data Handed : Type 0 where
  -- the head of an interim response
  InterimHanded : (id : ℕ) (list : List Field) → Handed
  -- the head of a message, and whether nothing follows it
  HeadHanded : (id : ℕ) (list : List Field) (end : Bool) → Handed
  -- octets of a body, and whether nothing follows them
  BodyHanded : (id : ℕ) (octets : List ℕ) (end : Bool) → Handed
  -- trailers, which end a message
  TrailersHanded : (id : ℕ) (list : List Field) → Handed
  -- what is no part of a message, as the connection reports it
  Passed : (event : Event) → Handed

pub record EndLog : Type 0 where
  -- the connection's
  pub log : Log
  -- what was accepted, one message a stream, the newest first; one that is given in parts grows
  pub accepted : List (ℕ × Said)
  -- what was handed out, newest first
  pub handed : List Handed
  -- with which stream the next pass of `pump_some` begins, and what that has left of its share
  pub turn : Turn
  -- the stream of the part that was refused last, and the rule that it breaks
  pub malformed : Option (ℕ × Malformed)

-- what was accepted for a stream
unfoldable pub said_for : ℕ → List (ℕ × Said) → Option Said
said_for i [] = None
said_for i ((id, said) ∷ accepted) = if id == i then Some said else said_for i accepted

-- the same with more accepted for one of the streams
unfoldable pub replaced : ℕ → Said → List (ℕ × Said) → List (ℕ × Said)
replaced i said [] = []
replaced i said ((id, before) ∷ accepted) =
    if id == i then (i, said) ∷ accepted else (id, before) ∷ replaced i said accepted

-- the part of the stream's message that was handed out, and whether it has END_STREAM
unfoldable pub part_on : ℕ → Handed → List (Part × Bool)
part_on i (InterimHanded id list) = if id == i then (FieldsPart list, false) ∷ [] else []
part_on i (HeadHanded id list end) = if id == i then (FieldsPart list, end) ∷ [] else []
part_on i (BodyHanded id octets end) = if id == i then (OctetsPart octets, end) ∷ [] else []
part_on i (TrailersHanded id list) = if id == i then (FieldsPart list, true) ∷ [] else []
part_on i (Passed event) = []

-- the parts that were handed out on the stream, the first one first
unfoldable pub parts_on : ℕ → List Handed → List (Part × Bool)
parts_on i [] = []
parts_on i (one ∷ handed) = parts_on i handed ++ part_on i one

-- the tokens of what was accepted, or none
unfoldable pub tokens_given : Option Said → List Token
tokens_given None = []
tokens_given (Some said) = said_tokens said

-- what an end was given to say on a stream
abbrev pub tokens_said : EndLog → ℕ → List Token
tokens_said end i = tokens_given (said_for i end.accepted)

-- what it has sent of it so far, and what waits
abbrev pub tokens_out : EndLog → ℕ → List Token
tokens_out end i = tokens_sent i end.log.calls

-- what waits on a stream: the rest of its message, after what was sent of it
-- rule: 8.1 What was sent on a stream is a prefix of its message
abbrev pub tokens_waiting : EndLog → ℕ → List Token
tokens_waiting end i = drop (length (tokens_out end i)) (tokens_said end i)

-- what it has handed out on a stream, token by token
unfoldable pub tokens_of_part : (Part × Bool) → List Token
tokens_of_part (FieldsPart list, end) = FieldsToken list end ∷ end_tokens end
tokens_of_part (OctetsPart octets, end) = each OctetToken octets ++ end_tokens end

-- what it has handed out on a stream in several parts, token by token
-- rule (law): 8.1 (own) What has come of a message that breaks no rule can be read
unfoldable pub tokens_of_parts : List (Part × Bool) → List Token
tokens_of_parts [] = []
tokens_of_parts (part ∷ parts) = tokens_of_part part ++ tokens_of_parts parts

-- The part is no empty DATA without END_STREAM.
-- rule (law): 8.1 (own) What has come of a message that breaks no rule can be read
unfoldable pub IsNoEmptyPart : (Part × Bool) → Type 0
IsNoEmptyPart (FieldsPart list, end) = Unit {0}
IsNoEmptyPart (OctetsPart octets, end) = (octets ≢ []) ⊎ (end ≡ true)

-- what it has handed out on a stream, all of it, token by token
-- rule: 8.1 (own) What is handed out of a stream is what was reported, in order
abbrev pub tokens_handed : EndLog → ℕ → List Token
tokens_handed end i = tokens_of_parts (parts_on i end.handed)

-- Whether an end has asked with HEAD on a stream.
unfoldable pub asked_head : Option Said → Bool
asked_head None = false
asked_head (Some said) = asks_head said.message.head

-- what an end reads on a stream
unfoldable pub reads_on : EndLog → ℕ → Reads
reads_on end i =
    if is_server end.log.role then Requests
    else Responses (asked_head (said_for i end.accepted))

-- the part of a message that the connection reports, with its stream
unfoldable pub part_of_event : Event → Option (ℕ × (Part × Bool))
part_of_event (FieldsEvent id list end) = Some (id, (FieldsPart list, end))
part_of_event (DataEvent id octets flow end) = Some (id, (OctetsPart octets, end))
part_of_event event = None

-- a field block as it is handed out
unfoldable pub handed_at : Place → ℕ → List Field → (end : Bool) → Handed
handed_at places.Interim id list end = InterimHanded id list
handed_at places.Head id list end = HeadHanded id list end
handed_at places.Trailers id list end = TrailersHanded id list

-- a part of a message as it is handed out, after what was handed out of it before
-- rule: 8.1 (own) What is handed out of a stream is what was reported, in order
unfoldable pub handed_as : Reads → List (Part × Bool) → ℕ → (Part × Bool) → Handed
handed_as reads parts id (FieldsPart list, end) =
    handed_at (place_after reads parts list) id list end
handed_as reads parts id (OctetsPart octets, end) = BodyHanded id octets end

-- what a call of `take` answers
pub data EndAnswer : Type 0 where
  -- so many octets were used, and this was handed out
  EndTook : (count : ℕ) (handed : Option Handed) → EndAnswer
  -- the connection has failed
  EndFailed : (code : Code) → EndAnswer
