-- What the steps of `request`, `respond` and `begin` make of an end: a head is sent, and then what
-- is left of the message is kept.
use Rattle.std.specs.Prelude.{◌≡◌, ◌≢◌, ℕ, Bool, true, false, if◌then◌else◌, [], Option, Some}
use Rattle.std.specs.Prelude.{None, option_map, List, Result, Ok, Err}
use Rattle.hpack.specs.declared.types.field.Field.{Field}
use Rattle.h2_spec_log.specs.declared.refusal.Refusal.{Refusal}
use Rattle.h2_spec_log.specs.declared.role.Role.{Role}
use Rattle.h2_spec_log.specs.Acts.{Values, IsTypedAct, SendFields, Number, Done, Refused}
use Rattle.h2_spec_log.specs.CallRules.{is_too_large}
use Rattle.h2_spec_log.specs.Log.{Log, active}
use Rattle.h2_spec_log.specs.LogCalls.{MayAnswer, with_call}
use Rattle.h2_conn.specs.declared.conn.Conn.{Conn}
use Rattle.h2_conn.specs.Conn.{ConnRepresents}
use Rattle.h2_message.specs.declared.message.Message.{Message}
use Rattle.h2_message.specs.declared.reading.Reading.{Reading}
use Rattle.h2_message.specs.declared.reading.Reads.TheVariants.{Responses}
use Rattle.h2_message.specs.Messages.{SentMessage, trailer_fields, asks_head}
use Rattle.h2_message.specs.Phases.{Follows, asks_head_first}
use Rattle.h2_message.specs.Values.{message_value}
use Rattle.h2_ends.specs.declared.refusal.EndRefusal.{EndRefusal}
use Rattle.h2_ends.specs.declared.refusal.EndRefusal.TheVariants as refusals
use Rattle.h2_ends.specs.declared.end.End.{End}
use Rattle.h2_ends.specs.declared.outgoing.Outgoing.{Outgoing}
use Rattle.h2_ends.specs.declared.outgoing.Outgoing.TheVariants as outgoings
use Rattle.h2_ends.specs.declared.outgoing.Stream.{Stream}
use Rattle.h2_ends.specs.declared.outgoing.Waiting.{Waiting}
use Rattle.h2_ends.specs.Ends.{EndLog, parts_on, said_for}
use Rattle.h2_ends.specs.EndCalls.{RefusesMessage, IsUnchanged, MayRespond, IsAsked, IsNotAsked}
use Rattle.h2_ends.specs.EndCalls.{IsNotOpen}
use Rattle.h2_ends.specs.EndCalls.{end_with_said, opened_with, answered_with}
use Rattle.h2_laws_pair.specs.Tokens.{is_head_alone, Said, at_once}
use Rattle.h2_ends.specs.Represents.{EndRepresents, InSpan, kept_at, IsInParts}
use Rattle.h2_message.specs.declared.parts.BodyLength.{BodyLength}

-- what waits of a message whose head was sent
abbrev pub outgoing_for : Message → Outgoing
outgoing_for message =
    if is_head_alone (message_value message) then outgoings.Sent
    else outgoings.Waiting (record {
      body = record { items = message.body.items };
      sent = 0;
      trailers = message.trailers;
    })

-- a stream on which this is sent
abbrev pub given_stream : Outgoing → Stream → Stream
given_stream outgoing stream = record stream { outgoing = outgoing }

-- The new end keeps this of one stream, and of each other one what the old end keeps.
pub record KeepsOne (old new : End) (id : ℕ) (stream : Option Stream) : Type 0 where
  pub one : kept_at id new.streams.entries ≡ stream
  pub others : (i : ℕ) → i ≢ id → kept_at i new.streams.entries ≡ kept_at i old.streams.entries

-- The new end keeps this of the message that is sent on one stream, and is otherwise as the old
-- one; what waits is found.
pub record IsGiven (old : End) (id : ℕ) (outgoing : Outgoing) (new : End) : Type 0 where
  pub conn : new.conn ≡ old.conn
  pub role : new.role ≡ old.role
  pub keeps : KeepsOne old new id
      (option_map (given_stream outgoing) (kept_at id old.streams.entries))
  pub more : (i : ℕ) → InSpan old.spans.waiting i → InSpan new.spans.waiting i
  pub here : (waiting : Waiting) → outgoing ≡ outgoings.Waiting waiting
      → InSpan new.spans.waiting id
  pub owing : new.spans.owing ≡ old.spans.owing
  pub turn : new.spans.turn ≡ old.spans.turn
  pub malformed : new.spans.malformed ≡ old.spans.malformed

-- The head of a request was sent on a new stream, of which nothing else is kept.
pub record IsOpened (values : Values) (end : EndLog) (said : Said) (old : End) (id : ℕ)
    (new : End) : Type 0 where
  pub fits : is_too_large (trailer_fields said.message.trailers) ≡ false
  pub answers : MayAnswer end.log (opened_with said) (Number id)
  pub conn : ConnRepresents values new.conn (with_call end.log (opened_with said) (Number id))
  pub role : new.role ≡ old.role
  pub spans : new.spans ≡ old.spans
  pub reading : Reading
  pub follows : Follows (Responses (asks_head said.message.head)) [] reading
  pub keeps : KeepsOne old new id (Some (record {
    reading = reading;
    outgoing = outgoings.NotGiven;
  }))

-- What opening a stream answers, and makes of an end.
abbrev pub OpensStream : Values → EndLog → Said → End → Result ℕ Refusal → End → Type 0
OpensStream values end said old (Ok id) new = IsOpened values end said old id new
OpensStream values end said old (Err refusal) new =
    (after : EndLog) × RefusesMessage end.log (opened_with said) said.message refusal
    × IsUnchanged end after × EndRepresents values new after

-- What sending the head of a message on a stream answers, and makes of the connection. Where the
-- trailers are too large they are sent, and refused, in its place.
abbrev pub SendsHead : Values → Log → ℕ → SentMessage → Result (Unit {0}) Refusal → Conn → Type 0
SendsHead values log id message (Ok done) conn =
    (is_too_large (trailer_fields message.trailers) ≡ false)
    × MayAnswer log (answered_with id (at_once message)) Done
    × ConnRepresents values conn (with_call log (answered_with id (at_once message)) Done)
SendsHead values log id message (Err refusal) conn =
    (list : List Field) × (ends : Bool)
    × RefusesMessage log (answered_with id (at_once message)) message refusal
    × IsTypedAct (SendFields id list ends)
    × MayAnswer log (SendFields id list ends) (Refused refusal)
    × ConnRepresents values conn (with_call log (SendFields id list ends) (Refused refusal))

-- A request was handed out on the stream, which has no response yet: whether that is one to HEAD;
-- or E3, or E4.
abbrev pub AsksOn : EndLog → ℕ → Result Bool EndRefusal → Type 0
AsksOn end id (Ok to_head) =
    IsAsked end id × (said_for id end.accepted ≡ None)
    × (to_head ≡ asks_head_first (parts_on id end.handed))
AsksOn end id (Err refusals.NotAsked) = IsNotAsked end id
AsksOn end id (Err refusals.Answered) = IsAsked end id × (said_for id end.accepted ≢ None)
AsksOn end id (Err other) = ⊥

-- So it is at any end of this role that keeps this of the stream.
abbrev pub AsksOfKept : Role → Stream → Result Bool EndRefusal → Type 0
AsksOfKept role stream result =
    (values : Values) (now : End) (end : EndLog) (id : ℕ) → EndRepresents values now end
    → now.role ≡ role → Some stream ≡ kept_at id now.streams.entries → AsksOn end id result

-- A message was begun on the active stream, and so much of its body is left; or E3.
abbrev pub RestOn : EndLog → ℕ → Result BodyLength EndRefusal → Type 0
RestOn end id (Ok rest) = IsInParts end id rest × (active end.log id ≡ true)
RestOn end id (Err refusals.NotAsked) = IsNotOpen end id
RestOn end id (Err other) = ⊥

-- So it is at any end that keeps this of the stream.
abbrev pub RestOfKept : Stream → Result BodyLength EndRefusal → Type 0
RestOfKept stream result =
    (values : Values) (now : End) (end : EndLog) (id : ℕ) → EndRepresents values now end
    → Some stream ≡ kept_at id now.streams.entries → RestOn end id result

-- The head of a response was sent, and what is kept of streams is as before.
pub record IsAnswered (values : Values) (end : EndLog) (id : ℕ) (said : Said) (old new : End)
    : Type 0 where
  pub asked : IsAsked end id
  pub unsaid : said_for id end.accepted ≡ None
  pub fits : is_too_large (trailer_fields said.message.trailers) ≡ false
  pub answers : MayAnswer end.log (answered_with id said) Done
  pub conn : ConnRepresents values new.conn (with_call end.log (answered_with id said) Done)
  pub role : new.role ≡ old.role
  pub streams : new.streams ≡ old.streams
  pub spans : new.spans ≡ old.spans

-- What sending the head of a response answers, and makes of an end.
abbrev pub AnswersHead : Values → EndLog → ℕ → SentMessage → End
    → Result (Unit {0}) EndRefusal → End → Type 0
AnswersHead values end id message old (Ok done) new =
    IsAnswered values end id (at_once message) old new
    × MayRespond end id message (Ok tt)
    (end_with_said end (answered_with id (at_once message)) Done id (at_once message))
AnswersHead values end id message old (Err refusal) new =
    (after : EndLog) × MayRespond end id message (Err refusal) after
    × EndRepresents values new after

-- So it is at any end of this connection and role that keeps this of the stream.
abbrev pub AnswersKept : Conn → Role → Stream → ℕ → SentMessage → Result (Unit {0}) EndRefusal
    → Conn → Type 0
AnswersKept conn role stream id message result new =
    (values : Values) (old : End) (end : EndLog) → EndRepresents values old end
    → old.conn ≡ conn → old.role ≡ role → Some stream ≡ kept_at id old.streams.entries
    → AnswersHead values end id message old result (record old { conn = new })
