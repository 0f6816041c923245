-- When a client or a server represents what has happened at it, and what its calls make of that.
use Rattle.std.specs.Prelude.{◌≡◌, ◌≢◌, ◌⊎◌, ◌<◌, ◌≤◌, ◌-◌, ℕ, true, false, List, [], ◌∷◌, ◌++◌}
use Rattle.std.specs.Prelude.{length, drop, map as each, option_map, Option, Some, None, Result}
use Rattle.std.specs.Prelude.{Bool, Ok, Err}
use Rattle.std.specs.List.{Contains}
use Rattle.h2_numbers.specs.Entries.{value_at}
use Rattle.h2_spec_log.specs.declared.role.Role.{Role}
use Rattle.h2_spec_log.specs.declared.role.Role.TheVariants.{Client, Server}
use Rattle.h2_spec_log.specs.Acts.{Values, Act, Answer, Refuse}
use Rattle.h2_spec_log.specs.CallRules.{is_too_large}
use Rattle.h2_spec_log.specs.Log.{Log, active, owed}
use Rattle.h2_spec_log.specs.LogCalls.{MayAnswer, with_call, opened}
use Rattle.h2_laws_end.specs.Over.{IsOver, is_number_used}
use Rattle.hpack.specs.declared.types.field.Field.{Field}
use Rattle.h2_conn.specs.Conn.{ConnRepresents}
use Rattle.h2_message.specs.declared.message.Message.{Message}
use Rattle.h2_message.specs.declared.reading.Reads.{Reads}
use Rattle.h2_message.specs.declared.reading.Reads.TheVariants.{Requests, Responses}
use Rattle.h2_message.specs.declared.parts.BodyLength.{BodyLength}
use Rattle.h2_message.specs.Messages.{SentMessage, trailer_fields}
use Rattle.h2_message.specs.Phases.{Follows}
use Rattle.h2_message.specs.Values.{message_value}
use Rattle.h2_laws_pair.specs.Tokens.{Token, OctetToken, EndToken, trailers_tokens, Said}
use Rattle.h2_laws_pair.specs.Tokens.{Begun, is_begun, said_tokens}
use Rattle.h2_laws_pair.specs.Tokens.{tokens_heard, IsPrefixOfTokens}
use Rattle.h2_ends.specs.declared.refusal.EndRefusal.{EndRefusal}
use Rattle.h2_ends.specs.declared.end.End.{End}
use Rattle.h2_ends.specs.declared.outgoing.Waiting.{Waiting}
use Rattle.h2_ends.specs.declared.outgoing.Outgoing.{Outgoing}
use Rattle.h2_ends.specs.declared.outgoing.Outgoing.TheVariants as outgoings
use Rattle.h2_ends.specs.declared.outgoing.Stream.{Stream}
use Rattle.h2_ends.specs.declared.span.Span.{Span}
use Rattle.h2_ends.specs.declared.span.Spans.{Spans}
use Rattle.h2_ends.specs.declared.taking.EndProgress.{EndProgress}
use Rattle.h2_conn.specs.declared.taken.ConnFault.{ConnFault}
use Rattle.h2_ends.specs.Ends.{EndLog, said_for, parts_on, reads_on, tokens_said, tokens_out}
use Rattle.h2_ends.specs.Ends.{tokens_handed}
use Rattle.h2_ends.specs.EndTakes.{EndMayTake, end_with_log}
use Rattle.h2_ends.specs.EndCalls.{MayRequest, MayRespond, MayPump, MayReleaseAll, MayBegin}
use Rattle.h2_ends.specs.EndCalls.{MayBeginAnswer, MaySendBody, MaySendTrailers}
use Rattle.h2_ends.specs.Passes.{MayPumpSome}
use Rattle.h2_ends.specs.declared.event.EndTaken.{EndTaken}
use Rattle.h2_ends.specs.Loans.{answer_handed, answer_of_taken}

-- a new client or server
-- rule: 8.1 (own) A new client or server is that end of a connection
abbrev pub new_end_log : Role → Values → EndLog
new_end_log role values =
    record {
      log = opened role values;
      accepted = [];
      handed = [];
      turn = record { id = 0; rest = 0 };
      malformed = None;
    }

-- what is read on a stream of which nothing has happened
abbrev pub reads_of_new : Role → Reads
reads_of_new Client = Responses false
reads_of_new Server = Requests

-- what is kept of a number
abbrev pub kept_at : ℕ → List (ℕ × Stream) → Option Stream
kept_at i entries = value_at i entries

-- the tokens that wait
abbrev pub tokens_kept : Waiting → List Token
tokens_kept waiting =
    each OctetToken (drop waiting.sent waiting.body.items)
    ++ (trailers_tokens (option_map (λ fields. fields.items) waiting.trailers) ++ EndToken ∷ [])

-- What is kept of a message that waits is what was not sent of it, and not the end alone.
-- rule: 8.1 What was sent on a stream is a prefix of its message
pub record IsWaiting (end : EndLog) (i : ℕ) (waiting : Waiting) : Type 0 where
  pub said : Said
  pub accepted : said_for i end.accepted ≡ Some said
  pub whole : is_begun said.form ≡ false
  pub rest : said_tokens said ≡ tokens_out end i ++ tokens_kept waiting
  pub begun : tokens_out end i ≢ []
  pub some : (waiting.sent < length waiting.body.items) ⊎ (waiting.trailers ≢ None)
  pub fits : is_too_large (trailer_fields (option_map (λ fields. fields.items) waiting.trailers))
      ≡ false

-- What is left of a body of this length after so many octets, which are no more than that.
unfoldable pub IsRest : (length : Option ℕ) → (count : ℕ) → BodyLength → Type 0
IsRest None count rest = rest.left ≡ None
IsRest (Some number) count rest = (count ≤ number) × (rest.left ≡ Some (number - count))

-- A message was begun on a stream, and what was given of it was sent; so much of its body is left.
pub record IsInParts (end : EndLog) (i : ℕ) (rest : BodyLength) : Type 0 where
  pub said : Said
  pub number : Option ℕ
  pub accepted : said_for i end.accepted ≡ Some said
  pub form : said.form ≡ Begun number
  pub bare : said.message.trailers ≡ None
  pub out : said_tokens said ≡ tokens_out end i
  pub left : IsRest number (length said.message.body) rest

-- All of a message was sent.
pub record IsSent (end : EndLog) (i : ℕ) : Type 0 where
  pub said : Said
  pub accepted : said_for i end.accepted ≡ Some said
  pub whole : is_begun said.form ≡ false
  pub out : said_tokens said ≡ tokens_out end i

-- What is kept of the message that is sent on a stream.
unfoldable pub IsOutgoing : EndLog → ℕ → Outgoing → Type 0
IsOutgoing end i outgoings.NotGiven =
    (said_for i end.accepted ≡ None) × (tokens_out end i ≡ [])
IsOutgoing end i (outgoings.Open rest) = IsInParts end i rest
IsOutgoing end i (outgoings.Waiting waiting) = IsWaiting end i waiting
IsOutgoing end i outgoings.Sent = IsSent end i

-- What is kept of a stream. At a server its head was handed out.
pub record IsStream (end : EndLog) (i : ℕ) (stream : Stream) : Type 0 where
  pub was_used : is_number_used end.log i ≡ true
  pub reading : Follows (reads_on end i) (parts_on i end.handed) stream.reading
  pub outgoing : IsOutgoing end i stream.outgoing
  pub asked : end.log.role ≡ Server → parts_on i end.handed ≢ []

-- Nothing was given or handed out on a stream.
pub record IsUntouched (end : EndLog) (i : ℕ) : Type 0 where
  pub unread : parts_on i end.handed ≡ []
  pub unsaid : said_for i end.accepted ≡ None
  pub unsent : tokens_out end i ≡ []

-- What is kept of a number.
unfoldable pub IsKept : EndLog → ℕ → Option Stream → Type 0
IsKept end i None = IsUntouched end i
IsKept end i (Some stream) = IsStream end i stream

-- What was sent on a stream is a prefix of what the end was given to say there, with the head
-- where it was given a message.
-- rule: 8.1 What was sent on a stream is a prefix of its message
pub record SendsInOrder (end : EndLog) (i : ℕ) : Type 0 where
  pub waiting : List Token
  pub prefix : tokens_said end i ≡ tokens_out end i ++ waiting
  pub begun : said_for i end.accepted ≢ None → tokens_out end i ≢ []

-- This end has asked its connection to refuse the stream.
abbrev pub WasRefused : Log → ℕ → Type 0
WasRefused log i = (code : ℕ) × (answer : Answer) × Contains log.calls (Refuse i code, answer)

-- What was handed out of a stream is only the beginning of what its connection has reported: this
-- end has refused the rest, and no more is reported, since the stream is over or the connection
-- has failed.
-- rule: 8.1 (own) What is handed out of a stream is what was reported, in order
pub record IsCutShort (end : EndLog) (i : ℕ) : Type 0 where
  pub refused : WasRefused end.log i
  pub last : IsOver end.log i ⊎ (end.log.failed ≢ None)
  pub prefix : IsPrefixOfTokens (tokens_handed end i) (tokens_heard i end.log.reported)

-- What was handed out of a stream is what its connection has reported, in order, unless this end
-- has refused the rest.
-- rule: 8.1 (own) What is handed out of a stream is what was reported, in order
abbrev pub HandsInOrder : EndLog → ℕ → Type 0
HandsInOrder end i = (tokens_heard i end.log.reported ≡ tokens_handed end i) ⊎ IsCutShort end i

-- The number is one of the span.
pub record InSpan (span : Span) (i : ℕ) : Type 0 where
  pub first : span.first ≤ i
  pub last : i ≤ span.last

-- what is kept of the message that is sent on a stream
abbrev pub outgoing_in : Option Stream → Outgoing
outgoing_in None = outgoings.NotGiven
outgoing_in (Some stream) = stream.outgoing

-- Where a message waits on a stream, its number is one of the span.
abbrev pub WaitsWithin : Span → Option Stream → ℕ → Type 0
WaitsWithin span stream i =
    (waiting : Waiting) → outgoing_in stream ≡ outgoings.Waiting waiting → InSpan span i

-- Where something is owed on a stream, its number is one of the span.
abbrev pub OwesWithin : Span → Log → ℕ → Type 0
OwesWithin span log i = owed log i ≢ 0 → InSpan span i

-- What is kept of a stream keeps step with what has happened: something is kept where it is
-- active, as long as the connection is up; parts are handed out in order; where a message waits or
-- something is owed, that is found; a pass begins where it is to begin; and the part that was
-- refused last is known.
-- rule: 8.1 (own) Something is kept of each active stream, and of no other
pub record IsInStep (spans : Spans) (stream : Option Stream) (happened : EndLog) (i : ℕ) : Type 0
  where
    pub all : happened.log.failed ≡ None → active happened.log i ≡ true → stream ≢ None
    pub handed : HandsInOrder happened i
    pub within : WaitsWithin spans.waiting stream i
    pub owes : OwesWithin spans.owing happened.log i
    pub turn : spans.turn ≡ happened.turn
    pub malformed : spans.malformed ≡ happened.malformed

-- Something is kept only where the stream is active.
-- rule: 8.1 (own) Something is kept of each active stream, and of no other
abbrev pub KeepsActive : Log → Option Stream → ℕ → Type 0
KeepsActive log stream i = stream ≢ None → active log i ≡ true

-- The end's connection represents the log, and of each stream that isn't over the end keeps what
-- was given, sent and handed out.
pub record RepresentsMessages (values : Values) (end : End) (happened : EndLog) : Type 0 where
  pub conn : ConnRepresents values end.conn happened.log
  pub role : end.role ≡ happened.log.role
  pub streams : (i : ℕ) → IsOver happened.log i
      ⊎ IsKept happened i (kept_at i end.streams.entries)
  pub sent : (i : ℕ) → SendsInOrder happened i

-- The end represents what has happened: that, and what it keeps is of the active streams alone,
-- and of each of them as long as the connection is up.
-- rule: 8.1 (own) A new client or server is that end of a connection
pub record EndRepresents (values : Values) (end : End) (happened : EndLog) : Type 0 where
  pub streams : RepresentsMessages values end happened
  pub in_step : (i : ℕ) → IsInStep end.spans (kept_at i end.streams.entries) happened i
  pub active : (i : ℕ) → KeepsActive happened.log (kept_at i end.streams.entries) i

-- So it is but for one stream, of which something may be kept that isn't active any more.
pub record RepresentsBut (values : Values) (end : End) (happened : EndLog) (id : ℕ) : Type 0 where
  pub streams : RepresentsMessages values end happened
  pub in_step : (i : ℕ) → IsInStep end.spans (kept_at i end.streams.entries) happened i
  pub active : (i : ℕ) → i ≢ id → KeepsActive happened.log (kept_at i end.streams.entries) i

-- Whatever has happened at the end: the answer is one that `take` may give, and the end represents
-- what has happened then; before anything is lent, where these octets are handed out.
abbrev pub EndAdvances : End → List ℕ → (octets : List ℕ) → Result EndProgress ConnFault → End
    → Type 0
EndAdvances old piece octets result new =
    (values : Values) (end : EndLog) → EndRepresents values old end
    → (after : EndLog)
    × EndMayTake end piece (answer_handed new.conn.end.list octets result) after
    × EndRepresents values new after

-- The same once it is lent.
abbrev pub EndTakes : End → List ℕ → Result EndTaken ConnFault → End → Type 0
EndTakes old piece result new =
    (values : Values) (end : EndLog) → EndRepresents values old end
    → (after : EndLog) × EndMayTake end piece (answer_of_taken result) after
    × EndRepresents values new after

-- a result without the message that is handed back
abbrev pub without_message : {A : Type 0} → Result A (Message × EndRefusal) → Result A EndRefusal
without_message (Ok value) = Ok value
without_message (Err (message, refusal)) = Err refusal

-- The message is handed back.
abbrev pub HandsBack : {A : Type 0} → SentMessage → Result A (Message × EndRefusal) → Type 0
HandsBack message (Ok value) = Unit {0}
HandsBack message (Err (back, refusal)) = message_value back ≡ message

-- The same of `request`, `respond`, `pump` and `release_all`.
abbrev pub EndRequests : End → SentMessage → Result ℕ (Message × EndRefusal) → End → Type 0
EndRequests old message result new =
    HandsBack message result × ((values : Values) (end : EndLog) → EndRepresents values old end
    → (after : EndLog) × MayRequest end message (without_message result) after
    × EndRepresents values new after)

abbrev pub EndResponds : End → ℕ → SentMessage → Result (Unit {0}) (Message × EndRefusal) → End
    → Type 0
EndResponds old id message result new =
    HandsBack message result × ((values : Values) (end : EndLog) → EndRepresents values old end
    → (after : EndLog) × MayRespond end id message (without_message result) after
    × EndRepresents values new after)

-- The same of the calls that give a message in parts.
abbrev pub EndBegins : End → List Field → Result ℕ EndRefusal → End → Type 0
EndBegins old head result new =
    (values : Values) (end : EndLog) → EndRepresents values old end
    → (after : EndLog) × MayBegin end head result after × EndRepresents values new after

abbrev pub EndBeginsAnswer : End → ℕ → List Field → Result (Unit {0}) EndRefusal → End → Type 0
EndBeginsAnswer old id head result new =
    (values : Values) (end : EndLog) → EndRepresents values old end
    → (after : EndLog) × MayBeginAnswer end id head result after × EndRepresents values new after

abbrev pub EndSendsBody : End → ℕ → List ℕ → (ends : Bool) → Result ℕ EndRefusal → End → Type 0
EndSendsBody old id octets ends result new =
    (values : Values) (end : EndLog) → EndRepresents values old end
    → (after : EndLog) × MaySendBody end id octets ends result after
    × EndRepresents values new after

abbrev pub EndSendsTrailers : End → ℕ → List Field → Result (Unit {0}) EndRefusal → End → Type 0
EndSendsTrailers old id list result new =
    (values : Values) (end : EndLog) → EndRepresents values old end
    → (after : EndLog) × MaySendTrailers end id list result after
    × EndRepresents values new after

abbrev pub EndPumps : End → Result ℕ EndRefusal → End → Type 0
EndPumps old result new =
    (values : Values) (end : EndLog) → EndRepresents values old end
    → (after : EndLog) × MayPump end result after × EndRepresents values new after

abbrev pub EndPumpsSome : End → (most : ℕ) → Result ℕ EndRefusal → End → Type 0
EndPumpsSome old most result new =
    (values : Values) (end : EndLog) → EndRepresents values old end
    → (after : EndLog) × MayPumpSome most end result after × EndRepresents values new after

abbrev pub EndReleases : End → Result (Unit {0}) EndRefusal → End → Type 0
EndReleases old result new =
    (values : Values) (end : EndLog) → EndRepresents values old end
    → (after : EndLog) × MayReleaseAll end result after × EndRepresents values new after

-- The same of a call that is the connection's own, with its answer.
-- rule: 8.1 (own) The other calls of a client and a server are the connection's
abbrev pub EndAnswers : End → Act → Answer → End → Type 0
EndAnswers old act answer new =
    (values : Values) (end : EndLog) → EndRepresents values old end
    → MayAnswer end.log act answer
    × EndRepresents values new (end_with_log end (with_call end.log act answer))
