-- What the calls of a client or a server may answer, and what has happened after them (RFC 9113,
-- sections 8.1 and 6.9).
use Rattle.std.specs.Prelude.{map as each, ◌≡◌, ◌≢◌, ◌⊎◌, ◌≤◌, ◌<◌, ℕ, suc, ◌+◌, Bool, true, false}
use Rattle.std.specs.Prelude.{List, [], ◌∷◌, ◌++◌, length, take, Option, Some, None, is_none}
use Rattle.std.specs.Prelude.{if◌then◌else◌, ◌==◌, ◌&&◌}
use Rattle.std.specs.Prelude.{Result, Ok, Err}
use Rattle.hpack.specs.declared.types.field.Field.{Field}
use Rattle.h2_spec_log.specs.declared.refusal.Refusal.{Refusal}
use Rattle.h2_spec_log.specs.declared.refusal.Refusal.TheVariants.{Closed, OutputFull}
use Rattle.h2_spec_log.specs.declared.refusal.Refusal.TheVariants.{ListTooLarge, Memory}
use Rattle.h2_spec_log.specs.declared.role.Role.TheVariants.{Client, Server}
use Rattle.h2_spec_log.specs.Acts.{Act, Answer, IsTypedAct, Open, SendFields, SendData, Release}
use Rattle.h2_spec_log.specs.Acts.{Number, Count, Done, Refused}
use Rattle.h2_spec_log.specs.Limits.{full_output}
use Rattle.h2_spec_log.specs.Log.{Log, active, owed, waiting}
use Rattle.h2_spec_log.specs.LogView.{log_view}
use Rattle.h2_spec_log.specs.CallRules.{conditions, first_of, is_too_large}
use Rattle.h2_spec_log.specs.LogCalls.{MayAnswer, with_call}
use Rattle.h2_message.specs.declared.malformed.Malformed.{Malformed}
use Rattle.h2_message.specs.Messages.{SentMessage, trailer_fields, broken_by_request}
use Rattle.h2_message.specs.Messages.{broken_by_response}
use Rattle.h2_message.specs.Lengths.{length_to_send, breaks_length, broken_by_head}
use Rattle.h2_message.specs.Lengths.{broken_by_trailers}
use Rattle.h2_message.specs.declared.malformed.Malformed.TheVariants.{BadLength}
use Rattle.h2_message.specs.declared.reading.Reads.{Reads}
use Rattle.h2_message.specs.declared.reading.Reads.TheVariants.{Requests, Responses}
use Rattle.h2_message.specs.Phases.{asks_head_first}
use Rattle.h2_laws_pair.specs.Quiet.{IsStuck}
use Rattle.h2_laws_pair.specs.Tokens.{Token, FieldsToken, OctetToken, EndToken, trailers_tokens}
use Rattle.h2_laws_pair.specs.Tokens.{Begun, Ended, Said, at_once, is_ended_by_head}
use Rattle.h2_ends.specs.declared.refusal.EndRefusal.{EndRefusal}
use Rattle.h2_ends.specs.declared.refusal.EndRefusal.TheVariants as refusals
use Rattle.h2_ends.specs.Ends.{EndLog, said_for, replaced, parts_on, tokens_waiting}
use Rattle.h2_ends.specs.EndTakes.{end_with_log}

-- why the connection refuses a message whose head this call sends: as the call, and C10 of the
-- trailers too
-- rule: 8.1 (own) A request is refused for a rule, or as its head is, or sent
abbrev pub refusal_of_message : Log → Act → SentMessage → Option Refusal
refusal_of_message log act message =
    first_of (conditions (log_view log) act
    ++ (is_too_large (trailer_fields message.trailers), ListTooLarge) ∷ [])

-- The connection refuses a message so: for the first condition, or since memory was refused.
-- rule: 8.1 (own) A request that is refused is handed back, and nothing has changed
abbrev pub RefusesMessage : Log → Act → SentMessage → Refusal → Type 0
RefusesMessage log act message refusal =
    (refusal_of_message log act message ≡ Some refusal)
    ⊎ ((refusal_of_message log act message ≡ None) × (refusal ≡ Memory))

-- The call sends the head of a message.
abbrev pub IsHeadCall : Act → Type 0
IsHeadCall (Open fields end) = Unit {0}
IsHeadCall (SendFields id fields end) = Unit {0}
IsHeadCall act = ⊥

-- Nothing has happened, but that the connection may have refused a call that sends a head.
unfoldable pub IsUnchanged : (before after : EndLog) → Type 0
IsUnchanged before after =
    (after ≡ before)
    ⊎ ((act : Act) × (refusal : Refusal) × IsTypedAct act × IsHeadCall act
    × MayAnswer before.log act (Refused refusal)
    × (after ≡ end_with_log before (with_call before.log act (Refused refusal))))

-- the end after this call, which has sent the head of what was accepted for a stream
abbrev pub end_with_said : EndLog → Act → Answer → ℕ → Said → EndLog
end_with_said end act answer id said = record end {
  log = with_call end.log act answer;
  accepted = (id, said) ∷ end.accepted;
}

-- the call that opens a stream with the head of what is given, and the one that sends the head on
-- a stream
abbrev pub opened_with : Said → Act
opened_with said = Open said.message.head (is_ended_by_head said.form said.message)

abbrev pub answered_with : ℕ → Said → Act
answered_with id said = SendFields id said.message.head (is_ended_by_head said.form said.message)

-- what is given of a message that is begun with its head, for one who reads this
abbrev pub begun : Reads → List Field → Said
begun reads head = record {
  message = record { head = head; body = []; trailers = None };
  form = Begun (length_to_send reads head);
}

-- What `request` and `begin` of a client may answer: `broken` is the rule that is broken, if one
-- is.
-- rule: 8.1 (own) A request is refused for a rule, or as its head is, or sent
unfoldable pub MayAsk : (broken : Option Malformed) → EndLog → Said → Result ℕ EndRefusal → EndLog
    → Type 0
MayAsk broken end said (Ok id) after =
    (broken ≡ None) × (is_too_large (trailer_fields said.message.trailers) ≡ false)
    × MayAnswer end.log (opened_with said) (Number id)
    × (after ≡ end_with_said end (opened_with said) (Number id) id said)
MayAsk broken end said (Err (refusals.BadMessage rule)) after =
    (broken ≡ Some rule) × (after ≡ end)
MayAsk broken end said (Err (refusals.Conn refusal)) after =
    (broken ≡ None) × RefusesMessage end.log (opened_with said) said.message refusal
    × IsUnchanged end after
MayAsk broken end said (Err other) after = ⊥

abbrev pub MayRequest : EndLog → SentMessage → Result ℕ EndRefusal → EndLog → Type 0
MayRequest end message = MayAsk (broken_by_request message) end (at_once message)

abbrev pub MayBegin : EndLog → List Field → Result ℕ EndRefusal → EndLog → Type 0
MayBegin end head = MayAsk (broken_by_head Requests head) end (begun Requests head)

-- E3: the stream isn't active, or the head of its request was not handed out. A client hands out
-- none.
-- rule: 8.1 (own) A response is sent only to a request, and is checked
unfoldable pub IsNotAsked : EndLog → ℕ → Type 0
IsNotAsked end id =
    (active end.log id ≡ false) ⊎ ((parts_on id end.handed ≡ []) ⊎ (end.log.role ≡ Client))

pub record IsAsked (end : EndLog) (id : ℕ) : Type 0 where
  pub active : active end.log id ≡ true
  pub handed : parts_on id end.handed ≢ []
  pub server : end.log.role ≡ Server

-- the rule that an answer to what was read on a stream breaks
-- rule: 8.1 (own) A response is sent only to a request, and is checked
abbrev pub broken_by_answer : EndLog → ℕ → SentMessage → Option Malformed
broken_by_answer end id message =
    broken_by_response (asks_head_first (parts_on id end.handed)) message

-- what the client reads on a stream of a server
abbrev pub answer_reads : EndLog → ℕ → Reads
answer_reads end id = Responses (asks_head_first (parts_on id end.handed))

-- What `respond` and `begin` of a server may answer: E3, E4, E1 and E2 in this order. `broken` is
-- the rule that is broken, if one is.
-- rule: 8.1 (own) A second response to a request is refused
-- rule: 8.1 A response may come before its request is whole
unfoldable pub MayReply : (broken : Option Malformed) → EndLog → ℕ → Said
    → Result (Unit {0}) EndRefusal → EndLog → Type 0
MayReply broken end id said (Ok done) after =
    IsAsked end id × (said_for id end.accepted ≡ None) × (broken ≡ None)
    × (is_too_large (trailer_fields said.message.trailers) ≡ false)
    × MayAnswer end.log (answered_with id said) Done
    × (after ≡ end_with_said end (answered_with id said) Done id said)
MayReply broken end id said (Err refusals.NotAsked) after = IsNotAsked end id × (after ≡ end)
MayReply broken end id said (Err refusals.Answered) after =
    IsAsked end id × (said_for id end.accepted ≢ None) × (after ≡ end)
MayReply broken end id said (Err (refusals.BadMessage rule)) after =
    IsAsked end id × (said_for id end.accepted ≡ None) × (broken ≡ Some rule) × (after ≡ end)
MayReply broken end id said (Err (refusals.Conn refusal)) after =
    IsAsked end id × (said_for id end.accepted ≡ None) × (broken ≡ None)
    × RefusesMessage end.log (answered_with id said) said.message refusal × IsUnchanged end after

abbrev pub MayRespond : EndLog → ℕ → SentMessage → Result (Unit {0}) EndRefusal → EndLog → Type 0
MayRespond end id message = MayReply (broken_by_answer end id message) end id (at_once message)

abbrev pub MayBeginAnswer : EndLog → ℕ → List Field → Result (Unit {0}) EndRefusal → EndLog
    → Type 0
MayBeginAnswer end id head = MayReply (broken_by_head (answer_reads end id) head) end id
    (begun (answer_reads end id) head)

-- the end after this call, with which so much was accepted for a stream
abbrev pub end_with_more : EndLog → Act → Answer → ℕ → Said → EndLog
end_with_more end act answer id said = record end {
  log = with_call end.log act answer;
  accepted = replaced id said end.accepted;
}

-- A message was begun on an active stream: this was given of it, and its body has to have this
-- length, if one is said.
pub record IsOpen (end : EndLog) (id : ℕ) (said : Said) (number : Option ℕ) : Type 0 where
  pub active : active end.log id ≡ true
  pub accepted : said_for id end.accepted ≡ Some said
  pub form : said.form ≡ Begun number

-- E3: none was begun there, or all of it was given.
abbrev pub IsNotOpen : EndLog → ℕ → Type 0
IsNotOpen end id = (said : Said) (number : Option ℕ) → IsOpen end id said number → ⊥

-- what was given with octets of its body more, and then its end where that is set
abbrev pub with_octets : Said → List ℕ → (end : Bool) → Said
with_octets said octets end = record {
  message = record {
    head = said.message.head;
    body = said.message.body ++ octets;
    trailers = None;
  };
  form = if end then Ended else said.form;
}

-- what was given with the trailers more, which end it
abbrev pub with_trailers : Said → List Field → Said
with_trailers said list = record {
  message = record {
    head = said.message.head;
    body = said.message.body;
    trailers = Some list;
  };
  form = Ended;
}

-- Whether these octets break M11 after those that were given, all of them, with the end or
-- without.
abbrev pub breaks_with : Said → Option ℕ → List ℕ → (end : Bool) → Bool
breaks_with said number octets end =
    breaks_length number (length said.message.body + length octets) end

-- What `send_body` may answer: E3; M11; what the connection refuses; or how many of the octets it
-- has sent. The end was given where it has sent all of them.
-- rule: 8.1 (own) A part of a message is sent where one was begun, and is checked
unfoldable pub MaySendBody : EndLog → ℕ → List ℕ → (ends : Bool) → Result ℕ EndRefusal → EndLog
    → Type 0
MaySendBody end id octets ends (Ok count) after =
    (said : Said) × (number : Option ℕ) × IsOpen end id said number
    × (breaks_with said number octets ends ≡ false)
    × MayAnswer end.log (SendData id octets ends) (Count count)
    × (after ≡ end_with_more end (SendData id octets ends) (Count count) id
    (with_octets said (take count octets) (ends && count == length octets)))
MaySendBody end id octets ends (Err refusals.NotAsked) after =
    IsNotOpen end id × (after ≡ end)
MaySendBody end id octets ends (Err refusals.Answered) after = ⊥
MaySendBody end id octets ends (Err (refusals.BadMessage rule)) after =
    (said : Said) × (number : Option ℕ) × IsOpen end id said number
    × (breaks_with said number octets ends ≡ true) × (rule ≡ BadLength) × (after ≡ end)
MaySendBody end id octets ends (Err (refusals.Conn refusal)) after =
    (said : Said) × (number : Option ℕ) × IsOpen end id said number
    × (breaks_with said number octets ends ≡ false)
    × MayAnswer end.log (SendData id octets ends) (Refused refusal)
    × (after ≡ end_with_log end (with_call end.log (SendData id octets ends) (Refused refusal)))

-- What `send_trailers` may answer: E3; the rule that they break; what the connection refuses.
-- rule: 8.1 (own) A part of a message is sent where one was begun, and is checked
unfoldable pub MaySendTrailers : EndLog → ℕ → List Field → Result (Unit {0}) EndRefusal → EndLog
    → Type 0
MaySendTrailers end id list (Ok done) after =
    (said : Said) × (number : Option ℕ) × IsOpen end id said number
    × (broken_by_trailers number (length said.message.body) list ≡ None)
    × MayAnswer end.log (SendFields id list true) Done
    × (after ≡ end_with_more end (SendFields id list true) Done id (with_trailers said list))
MaySendTrailers end id list (Err refusals.NotAsked) after = IsNotOpen end id × (after ≡ end)
MaySendTrailers end id list (Err refusals.Answered) after = ⊥
MaySendTrailers end id list (Err (refusals.BadMessage rule)) after =
    (said : Said) × (number : Option ℕ) × IsOpen end id said number
    × (broken_by_trailers number (length said.message.body) list ≡ Some rule) × (after ≡ end)
MaySendTrailers end id list (Err (refusals.Conn refusal)) after =
    (said : Said) × (number : Option ℕ) × IsOpen end id said number
    × (broken_by_trailers number (length said.message.body) list ≡ None)
    × MayAnswer end.log (SendFields id list true) (Refused refusal)
    × (after ≡ end_with_log end (with_call end.log (SendFields id list true) (Refused refusal)))

-- how many octets of bodies are among the tokens
unfoldable pub octets_among : List Token → ℕ
octets_among [] = 0
octets_among (OctetToken octet ∷ tokens) = suc (octets_among tokens)
octets_among (token ∷ tokens) = octets_among tokens

-- How many octets of a body wait on a stream; nothing waits on one that isn't active.
-- rule: 8.1 What was sent on a stream is a prefix of its message
unfoldable pub unsent_on : EndLog → ℕ → ℕ
unsent_on end i = if active end.log i then octets_among (tokens_waiting end i) else 0

-- Of what waits on a stream nothing could go now.
-- rule: 8.1 (own) pump sends the lower streams first, and all that can go
-- rule: 8.1 (own) An end is quiet where nothing waits, is owed or could be sent
abbrev pub IsStuckOn : EndLog → ℕ → Type 0
IsStuckOn end i = IsStuck end.log i (tokens_waiting end i)

-- A stream is active, and nothing could go on any lower one.
-- rule: 8.1 (own) pump sends the lower streams first, and all that can go
pub record IsNext (end : EndLog) (id : ℕ) : Type 0 where
  pub active : active end.log id ≡ true
  pub below : (j : ℕ) → j < id → IsStuckOn end j

-- What waits on a stream are these octets, at least one, the rest of a body, and then trailers or
-- none. `ends` says that there are none, so that the message ends with the octets.
-- rule: 8.1 What was sent on a stream is a prefix of its message
pub record BodyWaits (end : EndLog) (id : ℕ) (octets : List ℕ) (ends : Bool) : Type 0 where
  pub some : octets ≢ []
  pub trailers : Option (List Field)
  pub waits : tokens_waiting end id ≡ each OctetToken octets ++ (trailers_tokens trailers
      ++ EndToken ∷ [])
  pub ends_is : ends ≡ is_none trailers

-- These trailers wait on a stream, and nothing before them.
-- rule: 8.1 What was sent on a stream is a prefix of its message
abbrev pub TrailersWait : EndLog → ℕ → List Field → Type 0
TrailersWait end id list = tokens_waiting end id ≡ FieldsToken list true ∷ EndToken ∷ []

-- The calls of a `pump`: each is on an active stream, while nothing could go on any lower one, and
-- hands over what waits there: the rest of a body, or trailers. So many octets of bodies were
-- sent. The last call may have been refused, for the reason that is given.
-- rule: 8.1 (own) pump sends the lower streams first, and all that can go
pub data Pumps : (end : EndLog) → (count : ℕ) → Option Refusal → (after : EndLog) → Type 0 where
  pumps_no_more : (end : EndLog) → Pumps end 0 None end
  pumps_data : (end : EndLog) (id sent more : ℕ) (octets : List ℕ) (ends : Bool)
      (refused : Option Refusal) (after : EndLog) → IsNext end id
      → IsTypedAct (SendData id octets ends) → BodyWaits end id octets ends
      → MayAnswer end.log (SendData id octets ends) (Count sent)
      → Pumps (end_with_log end (with_call end.log (SendData id octets ends) (Count sent))) more
      refused after → Pumps end (sent + more) refused after
  pumps_trailers : (end : EndLog) (id more : ℕ) (list : List Field) (refused : Option Refusal)
      (after : EndLog) → IsNext end id → IsTypedAct (SendFields id list true)
      → TrailersWait end id list → MayAnswer end.log (SendFields id list true) Done
      → Pumps (end_with_log end (with_call end.log (SendFields id list true) Done)) more refused
      after → Pumps end more refused after
  data_refused : (end : EndLog) (id : ℕ) (octets : List ℕ) (ends : Bool) (refusal : Refusal)
      → IsNext end id → IsTypedAct (SendData id octets ends) → BodyWaits end id octets ends
      → MayAnswer end.log (SendData id octets ends) (Refused refusal)
      → Pumps end 0 (Some refusal)
      (end_with_log end (with_call end.log (SendData id octets ends) (Refused refusal)))
  trailers_refused : (end : EndLog) (id : ℕ) (list : List Field) (refusal : Refusal)
      → IsNext end id → IsTypedAct (SendFields id list true) → TrailersWait end id list
      → MayAnswer end.log (SendFields id list true) (Refused refusal)
      → Pumps end 0 (Some refusal)
      (end_with_log end (with_call end.log (SendFields id list true) (Refused refusal)))

-- A pump that answers `Ok` ends where the output is full, or where nothing of what waits could go.
-- rule: 8.1 (own) pump sends the lower streams first, and all that can go
abbrev pub HasPumpedAll : EndLog → ℕ → EndLog → Type 0
HasPumpedAll end count after =
    (Pumps end count (Some OutputFull) after × (full_output ≤ waiting after.log))
    ⊎ (Pumps end count None after × ((i : ℕ) → IsStuckOn after i))

-- What `pump` may answer: how many octets of bodies were sent; or C1 at once; or C12 once the
-- connection has refused a call for it.
-- rule: 8.1 (own) pump sends the lower streams first, and all that can go
unfoldable pub MayPump : EndLog → Result ℕ EndRefusal → EndLog → Type 0
MayPump end (Ok count) after = (end.log.failed ≡ None) × HasPumpedAll end count after
MayPump end (Err (refusals.Conn Closed)) after = (end.log.failed ≢ None) × (after ≡ end)
MayPump end (Err (refusals.Conn Memory)) after =
    (end.log.failed ≡ None) × (count : ℕ) × Pumps end count (Some Memory) after
MayPump end (Err other) after = ⊥

-- Something is owed on a stream, and nothing on any lower one.
-- rule: 6.9 (own) release_all releases what is owed on each active stream
pub record IsNextOwed (end : EndLog) (id : ℕ) : Type 0 where
  pub some : owed end.log id ≢ 0
  pub below : (j : ℕ) → j < id → owed end.log j ≡ 0

-- The calls of a `release_all`: each releases all that is owed on a stream, where nothing is owed
-- on any lower one. The last one may have been refused: for this.
-- rule: 6.9 (own) release_all releases what is owed on each active stream
pub data Releases : (end : EndLog) → Option Refusal → (after : EndLog) → Type 0 where
  releases_no_more : (end : EndLog) → Releases end None end
  releases_one : (end : EndLog) (id : ℕ) (refused : Option Refusal) (after : EndLog)
      → IsNextOwed end id → IsTypedAct (Release id (owed end.log id))
      → MayAnswer end.log (Release id (owed end.log id)) Done
      → Releases (end_with_log end (with_call end.log (Release id (owed end.log id)) Done)) refused
      after → Releases end refused after
  releases_refused : (end : EndLog) (id : ℕ) (refusal : Refusal) → IsNextOwed end id
      → IsTypedAct (Release id (owed end.log id))
      → MayAnswer end.log (Release id (owed end.log id)) (Refused refusal)
      → Releases end (Some refusal) (end_with_log end
      (with_call end.log (Release id (owed end.log id)) (Refused refusal)))

-- What `release_all` may answer: that nothing is owed on any stream; or C1 at once; or C7 or C12
-- once the connection has refused a call for it, and then something is owed still.
-- rule: 6.9 (own) release_all releases what is owed on each active stream
unfoldable pub MayReleaseAll : EndLog → Result (Unit {0}) EndRefusal → EndLog → Type 0
MayReleaseAll end (Ok done) after =
    (end.log.failed ≡ None) × Releases end None after × ((i : ℕ) → owed after.log i ≡ 0)
MayReleaseAll end (Err (refusals.Conn Closed)) after = (end.log.failed ≢ None) × (after ≡ end)
MayReleaseAll end (Err (refusals.Conn OutputFull)) after =
    (end.log.failed ≡ None) × Releases end (Some OutputFull) after
    × (full_output ≤ waiting after.log) × ((i : ℕ) × (owed after.log i ≢ 0))
MayReleaseAll end (Err (refusals.Conn Memory)) after =
    (end.log.failed ≡ None) × Releases end (Some Memory) after
MayReleaseAll end (Err other) after = ⊥
