-- What sending on one stream makes of a pump that has come to it.
use Rattle.std.specs.Prelude.{◌≡◌, ◌≢◌, ◌⊎◌, ◌≤◌, ◌<◌, ℕ, ◌+◌, true, Option, Some, None}
use Rattle.std.specs.Prelude.{Result, Ok, Err, IfSome, IfNone}
use Rattle.h2_spec_log.specs.declared.role.Role.{Role}
use Rattle.h2_spec_log.specs.declared.refusal.Refusal.{Refusal}
use Rattle.h2_spec_log.specs.declared.refusal.Refusal.TheVariants.{OutputFull, Memory}
use Rattle.h2_spec_log.specs.Acts.{Values}
use Rattle.h2_spec_log.specs.Limits.{full_output}
use Rattle.h2_spec_log.specs.Log.{active, waiting}
use Rattle.h2_conn.specs.declared.conn.Conn.{Conn}
use Rattle.h2_ends.specs.declared.end.End.{End}
use Rattle.h2_ends.specs.declared.outgoing.Outgoing.TheVariants as outgoings
use Rattle.h2_ends.specs.declared.outgoing.Stream.{Stream}
use Rattle.h2_ends.specs.declared.outgoing.Waiting.{Waiting}
use Rattle.h2_ends.specs.declared.span.Span.{Span}
use Rattle.h2_ends.specs.declared.span.Spans.{Spans}
use Rattle.h2_ends.specs.declared.sending.SendState.{SendState}
use Rattle.h2_ends.specs.declared.sending.SendState.TheVariants.{Idle, Sent, Stuck, Full}
use Rattle.h2_ends.specs.Ends.{EndLog}
use Rattle.h2_ends.specs.EndCalls.{IsStuckOn, Pumps}
use Rattle.h2_ends.specs.Pumping.{IsPumping, IsSendingOn, HasSent, IsStopped, KeepsActiveOnly}
use Rattle.h2_ends.specs.Pumping.{KeepsActiveBut}
use Rattle.h2_ends.specs.Represents.{EndRepresents, InSpan, kept_at, outgoing_in}

-- What waited on a stream was sent as far as this says, and this waits still.
unfoldable pub HasGone : (values : Values) (start : EndLog) (role : Role) (spans : Spans)
    (keeps : ℕ → Option Stream) (id : ℕ) (stream : Stream) → Result SendState Refusal
    → (count : ℕ) (conn : Conn) (after : EndLog) (waits : Waiting) → Type 0
HasGone values start role spans keeps id stream (Ok Sent) count conn after waits =
    HasSent values start role spans keeps id stream count conn after
HasGone values start role spans keeps id stream (Ok Stuck) count conn after waits =
    IsSendingOn values start role spans keeps id stream count conn after waits
    × IsStuckOn after id
HasGone values start role spans keeps id stream (Ok Full) count conn after waits =
    IsStopped values start role spans keeps id stream count conn after waits OutputFull
HasGone values start role spans keeps id stream (Ok Idle) count conn after waits = ⊥
HasGone values start role spans keeps id stream (Err refusal) count conn after waits =
    IsStopped values start role spans keeps id stream count conn after waits refusal
    × (refusal ≢ OutputFull)

-- A full output is no error here.
abbrev pub StopsBy : Refusal → Result SendState Refusal → Type 0
StopsBy refusal result =
    ((refusal ≡ OutputFull) × (result ≡ Ok Full))
    ⊎ ((refusal ≢ OutputFull) × (result ≡ Err refusal))

-- So it is whatever has happened in a pump that sends a message on the stream.
abbrev pub Sends : (conn : Conn) (id : ℕ) (waits : Waiting) (count : ℕ)
    → Result SendState Refusal → (new : Conn) (left : Waiting) (sum : ℕ) → Type 0
Sends conn id waits count result new left sum =
    (values : Values) (start : EndLog) (role : Role) (spans : Spans) (keeps : ℕ → Option Stream)
    (stream : Stream) (happened : EndLog)
    → IsSendingOn values start role spans keeps id stream count conn happened waits
    → (after : EndLog) × HasGone values start role spans keeps id stream result sum new after left

-- what an end keeps of each number
abbrev pub keeps_of : End → ℕ → Option Stream
keeps_of end i = kept_at i end.streams.entries

-- A pump goes on at an end, whose streams were done below this number.
abbrev pub PumpGoes : Values → (start : EndLog) → (count : ℕ) → End → (happened : EndLog)
    → (id : ℕ) → Type 0
PumpGoes values start count end happened id =
    IsPumping values start count end.conn end.role end.spans (keeps_of end) happened id

-- The end represents what has happened in a pump that is over, since a call was refused.
pub record IsPumped (values : Values) (start : EndLog) (count : ℕ) (refusal : Refusal) (end : End)
    (after : EndLog) : Type 0 where
  pub represents : EndRepresents values end after
  pub calls : Pumps start count (Some refusal) after

-- No message waits on the stream.
abbrev pub NoneWaits : End → ℕ → Type 0
NoneWaits end id =
    (waiting : Waiting) → outgoing_in (kept_at id end.streams.entries) ≢ outgoings.Waiting waiting

-- The pump goes on above the stream, or it is over: the output is full, or memory was refused.
unfoldable pub HasPumped : (values : Values) (start : EndLog) (id : ℕ) → Result SendState Refusal
    → (count : ℕ) (new : End) (after : EndLog) → Type 0
HasPumped values start id (Ok Sent) count new after =
    PumpGoes values start count new after (id + 1)
    × KeepsActiveBut after.log (keeps_of new) id × NoneWaits new id
HasPumped values start id (Ok Idle) count new after =
    PumpGoes values start count new after (id + 1)
    × KeepsActiveOnly after.log (keeps_of new) × NoneWaits new id
HasPumped values start id (Ok Stuck) count new after =
    PumpGoes values start count new after (id + 1) × KeepsActiveOnly after.log (keeps_of new)
HasPumped values start id (Ok Full) count new after =
    IsPumped values start count OutputFull new after × (full_output ≤ waiting after.log)
HasPumped values start id (Err refusal) count new after =
    IsPumped values start count refusal new after × (refusal ≡ Memory)

-- On the streams but one a message waits where one waited, and as much of the end is as it was.
pub record WaitsAsBefore (old new : End) (id : ℕ) : Type 0 where
  pub spans : new.spans ≡ old.spans
  pub others : (i : ℕ) → i ≢ id
      → kept_at i new.streams.entries ≡ kept_at i old.streams.entries

-- So it is whatever has happened in a pump that comes to the stream.
abbrev pub PumpsOn : (old : End) (id count : ℕ) → Result SendState Refusal
    → (new : End) (sum : ℕ) → Type 0
PumpsOn old id count result new sum =
    (values : Values) (start happened : EndLog)
    → PumpGoes values start count old happened id → KeepsActiveOnly happened.log (keeps_of old)
    → active happened.log id ≡ true
    → (after : EndLog) × HasPumped values start id result sum new after

-- Something is kept of the stream, which is one of the span at most, and of none between it and a
-- number below.
pub record IsNextKept (end : End) (span : Span) (above id : ℕ) : Type 0 where
  pub higher : above < id
  pub within : id ≤ span.last
  pub kept : keeps_of end id ≢ None
  pub between : (i : ℕ) → above < i → i < id → keeps_of end i ≡ None

-- The next stream that is to be looked at: the next one of the span of which something is kept.
abbrev pub IsNextIn : End → Span → (above : ℕ) → Option ℕ → Type 0
IsNextIn end span above next =
    IfSome next (λ id. IsNextKept end span above id)
    × IfNone next ((i : ℕ) → above < i → InSpan span i → keeps_of end i ≡ None)
