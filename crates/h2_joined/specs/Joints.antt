-- A client and a server joined by two pipes: what may be done with them, and what has happened
-- then (RFC 9113, section 3).
use Rattle.std.specs.Prelude.{◌≡◌, ◌≢◌, ◌⊎◌, ◌<◌, ◌-◌, ◌^◌, ℕ, suc, Bool, true, false, List, []}
use Rattle.std.specs.Prelude.{◌∷◌, ◌++◌, length, take, drop, Option, Some, None, Result, Ok, Err}
use Rattle.std.specs.List.{AllByRecursion}
use Rattle.hpack.specs.Written.{AreOctets}
use Rattle.h2_frame.specs.declared.code.Code.{Code}
use Rattle.h2_frame.specs.declared.code.Code.TheVariants.{InternalError}
use Rattle.h2_spec_log.specs.declared.role.Role.{Role}
use Rattle.h2_spec_log.specs.declared.role.Role.TheVariants.{Client, Server}
use Rattle.h2_spec_log.specs.Acts.{Values, AreInRange, Act, Answer, IsTypedAct, Number, Count, Done}
use Rattle.h2_spec_log.specs.Acts.{OutOfMemory, Refused, ResetStream, SendPing, SendGoAway}
use Rattle.h2_spec_log.specs.Acts.{ChangeSettings, PutOut, SendFields, SendData, Release, Fail}
use Rattle.h2_spec_log.specs.Acts.{Widen}
use Rattle.h2_spec_log.specs.LogCalls.{MayAnswer, with_call}
use Rattle.h2_message.specs.Messages.{SentMessage}
use Rattle.h2_laws_pair.specs.Pairs.{Half, given_since}
use Rattle.h2_ends.specs.declared.refusal.EndRefusal.{EndRefusal}
use Rattle.h2_ends.specs.declared.refusal.EndRefusal.TheVariants.{Conn}
use Rattle.h2_ends.specs.Ends.{EndLog, Handed, EndTook, EndFailed}
use Rattle.h2_ends.specs.EndTakes.{EndMayTake, end_with_log}
use Rattle.h2_ends.specs.EndCalls.{MayRequest, MayRespond, MayPump, MayReleaseAll, MayBegin}
use Rattle.h2_ends.specs.EndCalls.{MayBeginAnswer, MaySendBody, MaySendTrailers}
use Rattle.h2_ends.specs.Passes.{MayPumpSome}
use Rattle.hpack.specs.declared.types.field.Field.{Field}
use Rattle.h2_ends.specs.Represents.{new_end_log}
use Rattle.h2_joined.specs.declared.act.Side.{Side}
use Rattle.h2_joined.specs.declared.act.Side.TheVariants as sides
use Rattle.h2_joined.specs.declared.act.Acted.{Acted}
use Rattle.h2_joined.specs.declared.act.Acted.TheVariants as acted

-- what is done with one end of the two
pub data Doing : Type 0 where
  -- a request is made; a response is given
  Requests : (message : SentMessage) → Doing
  Responds : (id : ℕ) (message : SentMessage) → Doing
  -- a request is begun; a response is
  Begins : (head : List Field) → Doing
  BeginsAnswer : (id : ℕ) (head : List Field) → Doing
  -- octets of the body of a message that was begun are sent, with its end or without; or trailers
  SendsBody : (id : ℕ) (octets : List ℕ) (ends : Bool) → Doing
  SendsTrailers : (id : ℕ) (list : List Field) → Doing
  -- `pump`, `pump_some` and `release_all`
  Pumps : Doing
  PumpsSome : (most : ℕ) → Doing
  ReleasesAll : Doing
  -- a call of the connection: of `release`, `reset`, `ping`, `go_away`, `fail` or
  -- `change_settings`
  Calls : (act : Act) → Doing
  -- octets of its output are put on the pipe to the other end
  Moves : (count : ℕ) → Doing
  -- octets are delivered to it from the pipe that leads to it
  Delivers : (count : ℕ) → Doing

-- an end with the pipe that leads to it
pub record JointEnd : Type 0 where
  -- what has happened at the end
  pub happened : EndLog
  -- octets that the other end has sent and that weren't delivered yet, in order
  pub incoming : List ℕ
  -- Whether the last delivery to it has stopped, so that there may be more events of its octets.
  pub unfinished : Bool

-- a new end, with an empty pipe
abbrev pub new_joint_end : Role → Values → JointEnd
new_joint_end role values =
    record { happened = new_end_log role values; incoming = []; unfinished = false }

-- the end with this as what has happened at it
abbrev pub with_happened : JointEnd → EndLog → JointEnd
with_happened one happened = record one { happened = happened }

-- the end after a call of its connection, with its answer in the log
abbrev pub with_answer : JointEnd → Act → Answer → JointEnd
with_answer one act answer =
    with_happened one (end_with_log one.happened (with_call one.happened.log act answer))

-- the other end after the call has put octets on the pipe to it
-- rule: joined (own) Output is put on the pipe to the other end, as much as is asked
abbrev pub with_given : (other one : JointEnd) → Act → Answer → JointEnd
with_given other one act answer = record other {
  incoming = other.incoming
      ++ given_since one.happened.log (with_call one.happened.log act answer);
}

-- the result of an act, by that of a call of the end
abbrev pub acted_by : {A : Type 0} → (A → Acted) → Result A EndRefusal → Acted
acted_by done (Ok value) = done value
acted_by done (Err refusal) = acted.Refused refusal

-- the result of an act, by the answer of a call of the connection
abbrev pub acted_as : Answer → Acted
acted_as (Number id) = acted.Id id
acted_as (Count count) = acted.Count count
acted_as Done = acted.Done
acted_as OutOfMemory = acted.Done
acted_as (Refused refusal) = acted.Refused (Conn refusal)

-- The call is one of `release`, `widen`, `reset`, `ping`, `go_away`, `fail` and `change_settings`.
abbrev pub IsControlCall : Act → Type 0
IsControlCall (Release id count) = Unit {0}
IsControlCall (Widen count) = Unit {0}
IsControlCall (ResetStream id code) = Unit {0}
IsControlCall (SendPing octets) = Unit {0}
IsControlCall SendGoAway = Unit {0}
IsControlCall (Fail code) = Unit {0}
IsControlCall (ChangeSettings values) = Unit {0}
IsControlCall act = ⊥

-- how a delivery ends
pub data Delivery : Type 0 where
  -- all of them were used
  Whole : Delivery
  -- the connection has failed
  Fails : (code : Code) → Delivery
  -- there was no room for an event, or no call is left; these octets were not used
  Stops : (unused : List ℕ) → Delivery

-- how many calls of `take` a delivery makes at most: more than any can need
abbrev pub most_calls : ℕ
most_calls = 2 ^ 64 - 1

-- Octets are given to `take` until they are used and it returns no event, or the connection has
-- failed; or the delivery stops before a call, since there is no room for an event, or since
-- `most_calls` calls were made. `calls` is how many were made before.
-- rule: joined (own) The first octets of a pipe are given to its end
-- rule: joined (own) A delivery without memory stops before a call and loses nothing
pub data IsDelivered : (calls : ℕ) → EndLog → List ℕ → Delivery → EndLog → Type 0 where
  is_whole : {end after : EndLog} → (calls : ℕ) (octets : List ℕ)
      → calls < most_calls → EndMayTake end octets (EndTook (length octets) None) after
      → IsDelivered calls end octets Whole after
  goes_on : {end between after : EndLog} → (calls : ℕ) (octets : List ℕ) (count : ℕ)
      (handed : Option Handed) (delivery : Delivery)
      → calls < most_calls → EndMayTake end octets (EndTook count handed) between
      → (count < length octets) ⊎ (handed ≢ None)
      → IsDelivered (suc calls) between (drop count octets) delivery after
      → IsDelivered calls end octets delivery after
  fails : {end after : EndLog} → (calls : ℕ) (octets : List ℕ) (code : Code)
      → calls < most_calls → EndMayTake end octets (EndFailed code) after
      → IsDelivered calls end octets (Fails code) after
  stops : {end : EndLog} → (calls : ℕ) (octets : List ℕ)
      → IsDelivered calls end octets (Stops octets) end

-- The results that an act on one end may have, and what has happened at both ends then. The result
-- is that of the call of the end, or `Memory` where memory was refused to copy a message or to make
-- room for an event.
-- rule: joined (own) An act is the call of its name at its end
-- rule: joined (own) Output is put on the pipe to the other end, as much as is asked
-- rule: joined (own) The first octets of a pipe are given to its end
-- rule: joined (own) A delivery without memory stops before a call and loses nothing
pub data MayDo (one other : JointEnd) : Doing → Acted → (new_one new_other : JointEnd) → Type 0
  where
    requests : (message : SentMessage) (result : Result ℕ EndRefusal) (after : EndLog)
        → AreOctets message.head → MayRequest one.happened message result after
        → MayDo one other (Requests message) (acted_by acted.Id result)
        (with_happened one after) other
    responds : (id : ℕ) (message : SentMessage) (result : Result (Unit {0}) EndRefusal)
        (after : EndLog) → id < 2 ^ 32 → AreOctets message.head
        → MayRespond one.happened id message result after
        → MayDo one other (Responds id message) (acted_by (λ done. acted.Done) result)
        (with_happened one after) other
    begins_request : (head : List Field) (result : Result ℕ EndRefusal) (after : EndLog)
        → AreOctets head → MayBegin one.happened head result after
        → MayDo one other (Begins head) (acted_by acted.Id result) (with_happened one after) other
    begins_answer : (id : ℕ) (head : List Field) (result : Result (Unit {0}) EndRefusal)
        (after : EndLog) → id < 2 ^ 32 → AreOctets head
        → MayBeginAnswer one.happened id head result after
        → MayDo one other (BeginsAnswer id head) (acted_by (λ done. acted.Done) result)
        (with_happened one after) other
    sends_body : (id : ℕ) (octets : List ℕ) (ends : Bool) (result : Result ℕ EndRefusal)
        (after : EndLog) → IsTypedAct (SendData id octets ends)
        → MaySendBody one.happened id octets ends result after
        → MayDo one other (SendsBody id octets ends) (acted_by acted.Count result)
        (with_happened one after) other
    sends_trailers : (id : ℕ) (list : List Field) (result : Result (Unit {0}) EndRefusal)
        (after : EndLog) → IsTypedAct (SendFields id list true)
        → MaySendTrailers one.happened id list result after
        → MayDo one other (SendsTrailers id list) (acted_by (λ done. acted.Done) result)
        (with_happened one after) other
    pumps : (result : Result ℕ EndRefusal) (after : EndLog) → MayPump one.happened result after
        → MayDo one other Pumps (acted_by acted.Count result) (with_happened one after) other
    pumps_some : (most : ℕ) (result : Result ℕ EndRefusal) (after : EndLog)
        → MayPumpSome most one.happened result after
        → MayDo one other (PumpsSome most) (acted_by acted.Count result) (with_happened one after)
        other
    releases_all : (result : Result (Unit {0}) EndRefusal) (after : EndLog)
        → MayReleaseAll one.happened result after
        → MayDo one other ReleasesAll (acted_by (λ done. acted.Done) result)
        (with_happened one after) other
    calls : (act : Act) (answer : Answer) → IsControlCall act → IsTypedAct act
        → MayAnswer one.happened.log act answer
        → MayDo one other (Calls act) (acted_as answer) (with_answer one act answer) other
    moves : (count : ℕ) (answer : Answer) → IsTypedAct (PutOut count)
        → MayAnswer one.happened.log (PutOut count) answer
        → MayDo one other (Moves count) (acted_as answer) (with_answer one (PutOut count) answer)
        (with_given other one (PutOut count) answer)
    delivers : (count : ℕ) (after : EndLog) → one.happened.log.failed ≡ None
        → IsDelivered 0 one.happened (take count one.incoming) Whole after
        → MayDo one other (Delivers count) (acted.Count (length (take count one.incoming)))
        (record { happened = after; incoming = drop count one.incoming; unfinished = false }) other
    -- the octets are off the pipe, used or not
    delivery_fails : (count : ℕ) (code : Code) (after : EndLog) → one.happened.log.failed ≡ None
        → IsDelivered 0 one.happened (take count one.incoming) (Fails code) after
        → MayDo one other (Delivers count) (acted.Failed code)
        (record { happened = after; incoming = drop count one.incoming; unfinished = false }) other
    -- no octets are delivered
    has_failed : (count : ℕ) (code : Code) → one.happened.log.failed ≡ Some code
        → MayDo one other (Delivers count) (acted.Failed code) one other
    -- the octets that were used are off the pipe, the others stay on it, and later acts are allowed
    delivery_stops : (count : ℕ) (unused : List ℕ) (after : EndLog)
        → one.happened.log.failed ≡ None
        → IsDelivered 0 one.happened (take count one.incoming) (Stops unused) after
        → MayDo one other (Delivers count) acted.Memory
        (record {
          happened = after;
          incoming = unused ++ drop count one.incoming;
          unfinished = true;
        }) other
    no_copy_of_a_request : (message : SentMessage)
        → MayDo one other (Requests message) acted.Memory one other
    no_copy_of_a_response : (id : ℕ) (message : SentMessage)
        → MayDo one other (Responds id message) acted.Memory one other
    no_copy_of_a_head : (head : List Field)
        → MayDo one other (Begins head) acted.Memory one other
    no_copy_of_an_answer : (id : ℕ) (head : List Field)
        → MayDo one other (BeginsAnswer id head) acted.Memory one other
    no_copy_of_octets : (id : ℕ) (octets : List ℕ) (ends : Bool)
        → MayDo one other (SendsBody id octets ends) acted.Memory one other
    no_copy_of_trailers : (id : ℕ) (list : List Field)
        → MayDo one other (SendsTrailers id list) acted.Memory one other

-- an act with its result: what was done with which end, and what came of it
pub record Made : Type 0 where
  pub side : Side
  pub doing : Doing
  pub acted : Acted

-- One act more at two ends, with its result, and what has happened at both then.
-- rule: joined (own) An act is the call of its name at its end
pub data IsNextAct (client server : JointEnd) : Made → (new_client new_server : JointEnd) → Type 0
  where
    at_client : {new_client new_server : JointEnd} → (doing : Doing) (answer : Acted)
        → MayDo client server doing answer new_client new_server
        → IsNextAct client server
        (record { side = sides.Client; doing = doing; acted = answer }) new_client new_server
    at_server : {new_client new_server : JointEnd} → (doing : Doing) (answer : Acted)
        → MayDo server client doing answer new_server new_client
        → IsNextAct client server
        (record { side = sides.Server; doing = doing; acted = answer }) new_client new_server

-- The acts were made, the newest first, on a new client and a new server with these values of their
-- own settings, and this has happened at them.
-- rule: joined (own) Two joined ends are a new client and a new server, pipes empty
pub data IsJoint (client_values server_values : Values) : (history : List Made)
    → (client server : JointEnd) → Type 0 where
  begins : AreInRange client_values → AreInRange server_values
      → IsJoint client_values server_values [] (new_joint_end Client client_values)
      (new_joint_end Server server_values)
  continues : {history : List Made} → {client server new_client new_server : JointEnd}
      → IsJoint client_values server_values history client server → (act : Made)
      → IsNextAct client server act new_client new_server
      → IsJoint client_values server_values (act ∷ history) new_client new_server

-- Memory was not refused where it counts: neither connection has failed with INTERNAL_ERROR, with
-- which it does where memory is refused as it takes octets.
-- rule: joined (own) What one end has handed out is a prefix of what the other accepted
pub record MemorySufficed (client server : JointEnd) : Type 0 where
  pub client_went_on : client.happened.log.failed ≢ Some InternalError
  pub server_went_on : server.happened.log.failed ≢ Some InternalError

-- No end was ended by its caller: no `fail` was made.
-- rule: joined (own) What one end has handed out is a prefix of what the other accepted
abbrev pub NoneWasEnded : List Made → Type 0
NoneWasEnded history =
    AllByRecursion (λ made. (code : Code) → made.doing ≢ Calls (Fail code)) history

-- an end as half of a pair; `lost`: octets that were delivered once it had failed, and not used
abbrev pub half_of : JointEnd → (lost : List ℕ) → Half
half_of one lost = record { log = one.happened.log; incoming = one.incoming; lost = lost }
