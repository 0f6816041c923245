-- How a part of a message is read, and how a stream is refused, at an end whose connection has
-- taken octets.
use Rattle.std.specs.Prelude.{◌≡◌, ◌≢◌, ◌⊎◌, ◌++◌, ℕ, Bool, true, false, List, [], Option, Some}
use Rattle.std.specs.Prelude.{None, IfSome, IsSome, IfOk, Result, Ok, Err}
use Rattle.hpack.specs.declared.types.field.Field.{Field}
use Rattle.h2_wire.specs.Cutter.{body_at}
use Rattle.h2_spec_log.specs.declared.role.Role.{Role}
use Rattle.h2_spec_log.specs.declared.role.Role.TheVariants.{Server}
use Rattle.h2_spec_log.specs.Acts.{Values}
use Rattle.h2_spec_log.specs.Events.{Event}
use Rattle.h2_spec_log.specs.Histories.{IsLog}
use Rattle.h2_spec_log.specs.Log.{Log, active}
use Rattle.h2_laws_end.specs.Over.{IsOver, is_number_used}
use Rattle.h2_laws_end.specs.Takes.{MayTake, Took}
use Rattle.h2_conn.specs.declared.taken.ConnFault.{ConnFault}
use Rattle.h2_conn.specs.Events.{LocatedEvent, happened_value}
use Rattle.h2_conn.specs.Loans.{frame_in}
use Rattle.h2_message.specs.declared.malformed.Malformed.{Malformed}
use Rattle.h2_message.specs.declared.reading.Place.{Place}
use Rattle.h2_message.specs.Reading.{Part, FieldsPart, OctetsPart}
use Rattle.h2_message.specs.Phases.{place_after}
use Rattle.h2_laws_pair.specs.Tokens.{tokens_heard, IsPrefixOfTokens}
use Rattle.h2_ends.specs.declared.end.End.{End}
use Rattle.h2_ends.specs.declared.event.EndEvent.TheVariants as events
use Rattle.h2_ends.specs.declared.taking.Unread.{Unread}
use Rattle.h2_ends.specs.declared.taking.Unread.TheVariants as unreads
use Rattle.h2_ends.specs.Ends.{EndLog, EndAnswer, EndTook, EndFailed, parts_on, reads_on}
use Rattle.h2_ends.specs.Ends.{handed_as}
use Rattle.h2_ends.specs.EndTakes.{EndMayTake, IsReadableWith, end_with_log, end_with_handed}
use Rattle.h2_ends.specs.EndTakes.{named_on, rule_broken}
use Rattle.h2_ends.specs.EndEvents.{LocatedPart}
use Rattle.h2_ends.specs.Loans.{handed_value}
use Rattle.h2_ends.specs.Ends.{tokens_handed, tokens_of_part}
use Rattle.h2_ends.specs.Represents.{RepresentsMessages, EndRepresents, IsKept, kept_at, IsInStep}
use Rattle.h2_ends.specs.Represents.{KeepsActive, WaitsWithin, OwesWithin}

-- What is kept of all streams but one keeps step with what has happened, and is of active streams;
-- where a message waits on that one, or something is owed, that is found; a pass begins where it
-- is to begin; and the part that was refused last is known.
pub record IsInStepBut (end : End) (happened : EndLog) (id : ℕ) : Type 0 where
  pub others : (i : ℕ) → i ≢ id
      → IsInStep end.spans (kept_at i end.streams.entries) happened i
  pub active : (i : ℕ) → i ≢ id → KeepsActive happened.log (kept_at i end.streams.entries) i
  pub within : WaitsWithin end.spans.waiting (kept_at id end.streams.entries) id
  pub owes : OwesWithin end.spans.owing happened.log id
  pub turn : end.spans.turn ≡ happened.turn
  pub malformed : end.spans.malformed ≡ happened.malformed

-- A part of a message has come on the stream and isn't handed out yet. What is kept of the stream
-- is so still, also where that part has closed it. Where nothing is kept it is the first part, at
-- a server, and the stream is active.
pub record IsReadOn (values : Values) (end : End) (happened : EndLog) (id : ℕ)
    (part : Part × Bool) : Type 0 where
  pub streams : RepresentsMessages values end happened
  pub others : IsInStepBut end happened id
  pub kept : IsKept happened id (kept_at id end.streams.entries)
  pub was_used : is_number_used happened.log id ≡ true
  pub heard : tokens_heard id happened.log.reported
      ≡ tokens_handed happened id ++ tokens_of_part part
  pub first : kept_at id end.streams.entries ≡ None
      → (happened.log.role ≡ Server) × (active happened.log id ≡ true)
  pub goes_on : part.1 ≡ false → KeepsActive happened.log (kept_at id end.streams.entries) id

-- Parts have come on a stream of which only the beginning was handed out: it is to be refused.
pub record MustRefuse (values : Values) (end : End) (happened : EndLog) (id : ℕ) : Type 0 where
  pub streams : RepresentsMessages values end happened
  pub others : IsInStepBut end happened id
  pub was_used : is_number_used happened.log id ≡ true
  pub prefix : IsPrefixOfTokens (tokens_handed happened id)
      (tokens_heard id happened.log.reported)

-- the end after it has handed out a part of a message
abbrev pub end_with_part : EndLog → ℕ → (Part × Bool) → EndLog
end_with_part happened id part =
    end_with_handed happened happened.log
    (handed_as (reads_on happened id) (parts_on id happened.handed) id part)

-- A part is read, and the end represents what has happened with it; or it cannot be.
abbrev pub IsRead : Values → EndLog → ℕ → (Part × Bool) → End → Type 0
IsRead values happened id part new =
    IsReadableWith happened id part × EndRepresents values new (end_with_part happened id part)

abbrev pub IsNotRead : Values → EndLog → ℕ → (Part × Bool) → End → Type 0
IsNotRead values happened id part new =
    (IsReadableWith happened id part → ⊥) × MustRefuse values new happened id

-- What is made of a field block.
unfoldable pub ReadsFields : Values → EndLog → ℕ → List Field → (end : Bool) → Result Place Unread
    → End → Type 0
ReadsFields values happened id list end (Ok place) new =
    IsRead values happened id (FieldsPart list, end) new
    × (place ≡ place_after (reads_on happened id) (parts_on id happened.handed) list)
ReadsFields values happened id list end (Err (unreads.Malformed rule)) new =
    IsNotRead values happened id (FieldsPart list, end) new
    × (rule ≡ rule_broken happened id (FieldsPart list, end))
ReadsFields values happened id list end (Err unreads.OutOfMemory) new =
    IsReadableWith happened id (FieldsPart list, end) × MustRefuse values new happened id
    × (happened.log.role ≡ Server) × (parts_on id happened.handed ≡ [])

-- What is made of octets of a body.
unfoldable pub ReadsData : Values → EndLog → ℕ → List ℕ → (end : Bool)
    → Result (Unit {0}) Unread → End → Type 0
ReadsData values happened id octets end (Ok read) new =
    IsRead values happened id (OctetsPart octets, end) new
ReadsData values happened id octets end (Err (unreads.Malformed rule)) new =
    IsNotRead values happened id (OctetsPart octets, end) new
    × (rule ≡ rule_broken happened id (OctetsPart octets, end))
ReadsData values happened id octets end (Err unreads.OutOfMemory) new = ⊥

-- the code with which a stream is refused
abbrev pub code_unread : Unread → ℕ
code_unread (unreads.Malformed rule) = 1
code_unread unreads.OutOfMemory = 2

-- the part that was refused last, once one was on this stream for this cause
unfoldable pub refused_last : ℕ → Unread → (before : Option (ℕ × Malformed))
    → Option (ℕ × Malformed)
refused_last id (unreads.Malformed rule) before = named_on id rule
refused_last id unreads.OutOfMemory before = before

-- the end then
abbrev pub with_unread : EndLog → ℕ → Unread → EndLog
with_unread end id unread = record end { malformed = refused_last id unread end.malformed }

-- Once the connection was asked to refuse a stream, it is answered whether it has failed.
unfoldable pub AnswersRefusal : Values → EndLog → Result LocatedPart ConnFault → End → Type 0
AnswersRefusal values happened (Ok handed) new =
    (happened.log.failed ≡ None) × EndRepresents values new happened
AnswersRefusal values happened (Err fault) new =
    (happened.log.failed ≡ Some fault.code) × EndRepresents values new happened

-- If it hasn't, that this end has reset the stream.
abbrev pub IsResetBy : (id code : ℕ) → Result LocatedPart ConnFault → Type 0
IsResetBy id code result = IfOk result (λ handed. handed ≡ events.Reset id code true)

-- The connection has taken octets and reports this event; of the streams is kept what was, in step
-- with what had happened before.
pub record HasReported (values : Values) (now : End) (end : EndLog) (piece : List ℕ) (count : ℕ)
    (event : Event) (log : Log) : Type 0 where
  pub took : MayTake end.log piece (Took count (Some event)) log
  pub logged : (role : Role) × IsLog role values end.log
  pub streams : RepresentsMessages values now (end_with_log end log)
  pub kept : (i : ℕ) → IsOver end.log i
      ⊎ IsKept (end_with_log end log) i (kept_at i now.streams.entries)
  pub in_step : (i : ℕ) → IsInStep now.spans (kept_at i now.streams.entries) end i
  pub active : (i : ℕ) → KeepsActive end.log (kept_at i now.streams.entries) i

-- what is answered of a report
abbrev pub answer_of_report : List Field → List ℕ → ℕ → Result LocatedPart ConnFault → EndAnswer
answer_of_report list octets count (Ok handed) =
    EndTook count (Some (handed_value list octets handed))
answer_of_report list octets count (Err fault) = EndFailed fault.code

-- The octets of a body that is reported lie in the connection or the piece.
abbrev pub LiesHere : End → List ℕ → LocatedEvent → Type 0
LiesHere end piece happened =
    IfSome (frame_in (Some happened)) (λ frame. IsSome (body_at end.conn.cutter piece frame))

-- The octets of a body that is reported are those that lie there.
abbrev pub IsBodyHere : End → List ℕ → List ℕ → LocatedEvent → Type 0
IsBodyHere end piece octets happened =
    IfSome (frame_in (Some happened))
    (λ frame. body_at end.conn.cutter piece frame ≡ Some octets)

-- Of what is reported, with the octets of its body, the end makes an answer of `take`.
abbrev pub EndHands : End → List ℕ → LocatedEvent → (octets : List ℕ)
    → Result LocatedPart ConnFault
    → End → Type 0
EndHands old piece happened octets result new =
    (body : List ℕ) × IsBodyHere old piece body happened
    × ((values : Values) (end : EndLog) (count : ℕ) (log : Log)
    → HasReported values old end piece count
    (happened_value old.conn.end.list body happened) log
    → (after : EndLog)
    × EndMayTake end piece (answer_of_report new.conn.end.list octets count result) after
    × EndRepresents values new after)
