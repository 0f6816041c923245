-- A pump in the middle of its calls, where one stream is taken out of what the end keeps.
use Rattle.std.specs.Prelude.{◌≡◌, ◌≢◌, ◌⊎◌, ◌==◌, ◌≤◌, ◌<◌, ℕ, ◌+◌, Bool, true, List, Option}
use Rattle.std.specs.Prelude.{if◌then◌else◌, Some, None}
use Rattle.hpack.specs.declared.types.field.Field.{Field}
use Rattle.h2_spec_log.specs.declared.role.Role.{Role}
use Rattle.h2_spec_log.specs.declared.refusal.Refusal.{Refusal}
use Rattle.h2_spec_log.specs.declared.refusal.Refusal.TheVariants.{OutputFull, Memory}
use Rattle.h2_spec_log.specs.Acts.{Values, Act, Answer, IsTypedAct, SendFields, SendData, Count}
use Rattle.h2_spec_log.specs.Acts.{Done}
use Rattle.h2_spec_log.specs.Limits.{full_output}
use Rattle.h2_spec_log.specs.Log.{Log, active, waiting}
use Rattle.h2_spec_log.specs.LogCalls.{MayAnswer, with_call}
use Rattle.h2_laws_end.specs.Over.{IsOver}
use Rattle.h2_conn.specs.declared.conn.Conn.{Conn}
use Rattle.h2_conn.specs.Conn.{ConnRepresents}
use Rattle.h2_ends.specs.declared.outgoing.Outgoing.{Outgoing}
use Rattle.h2_ends.specs.declared.outgoing.Outgoing.TheVariants as outgoings
use Rattle.h2_ends.specs.declared.outgoing.Stream.{Stream}
use Rattle.h2_ends.specs.declared.outgoing.Waiting.{Waiting}
use Rattle.h2_ends.specs.declared.span.Spans.{Spans}
use Rattle.h2_ends.specs.Ends.{EndLog}
use Rattle.h2_ends.specs.EndTakes.{end_with_log}
use Rattle.h2_ends.specs.EndCalls.{IsStuckOn, IsNext, BodyWaits, TrailersWait, Pumps}
use Rattle.h2_ends.specs.Represents.{IsKept, SendsInOrder, IsInStep, KeepsActive}

-- the end after a call of its connection
abbrev pub end_after_call : EndLog → Act → Answer → EndLog
end_after_call end act answer = end_with_log end (with_call end.log act answer)

-- The output is full, or memory was refused.
abbrev pub LacksSpace : Log → Refusal → Type 0
LacksSpace log refusal =
    ((refusal ≡ OutputFull) × (full_output ≤ waiting log)) ⊎ (refusal ≡ Memory)

-- Nothing could go on any lower stream.
abbrev pub IsStuckBelow : EndLog → ℕ → Type 0
IsStuckBelow end id = (j : ℕ) → j < id → IsStuckOn end j

-- What is kept is of active streams; or so it is but for one.
abbrev pub KeepsActiveOnly : Log → (ℕ → Option Stream) → Type 0
KeepsActiveOnly log keeps = (i : ℕ) → KeepsActive log (keeps i) i

abbrev pub KeepsActiveBut : Log → (ℕ → Option Stream) → ℕ → Type 0
KeepsActiveBut log keeps id = (i : ℕ) → i ≢ id → KeepsActive log (keeps i) i

-- The calls of a pump so far, none of which was refused: as Pumps, with the newest last.
pub data PumpsSoFar (start : EndLog) : (count : ℕ) → (now : EndLog) → Type 0 where
  sends_nothing : PumpsSoFar start 0 start
  sends_data : {count : ℕ} → {now : EndLog} → PumpsSoFar start count now → (id sent : ℕ)
      (octets : List ℕ) (ends : Bool) → IsNext now id → IsTypedAct (SendData id octets ends)
      → BodyWaits now id octets ends → MayAnswer now.log (SendData id octets ends) (Count sent)
      → PumpsSoFar start (count + sent) (end_after_call now (SendData id octets ends) (Count sent))
  sends_trailers : {count : ℕ} → {now : EndLog} → PumpsSoFar start count now → (id : ℕ)
      (list : List Field) → IsNext now id → IsTypedAct (SendFields id list true)
      → TrailersWait now id list → MayAnswer now.log (SendFields id list true) Done
      → PumpsSoFar start count (end_after_call now (SendFields id list true) Done)

-- a stream with this to send
abbrev pub with_outgoing : Stream → Outgoing → Stream
with_outgoing stream outgoing = record stream { outgoing = outgoing }

-- what an end keeps of each number, with this of one
abbrev pub keeps_with : (ℕ → Option Stream) → ℕ → Stream → ℕ → Option Stream
keeps_with keeps id stream i = if i == id then Some stream else keeps i

-- A connection with what is kept of each number represents what has happened: as
-- RepresentsStreams, where a stream is taken out of the end's map.
pub record RepresentsBy (values : Values) (conn : Conn) (role : Role) (keeps : ℕ → Option Stream)
    (happened : EndLog) : Type 0 where
  pub represents : ConnRepresents values conn happened.log
  pub same_role : role ≡ happened.log.role
  pub streams : (i : ℕ) → IsOver happened.log i ⊎ IsKept happened i (keeps i)
  pub sent : (i : ℕ) → SendsInOrder happened i

-- A pump goes on: the connection and what is kept represent what has happened in it so far, in
-- which so many octets were sent, and nothing could go on a stream below this one.
pub record IsPumping (values : Values) (start : EndLog) (count : ℕ) (conn : Conn) (role : Role)
    (spans : Spans) (keeps : ℕ → Option Stream) (happened : EndLog) (id : ℕ) : Type 0 where
  pub represents : RepresentsBy values conn role keeps happened
  pub in_step : (i : ℕ) → IsInStep spans (keeps i) happened i
  pub calls : PumpsSoFar start count happened
  pub up : happened.log.failed ≡ None
  pub sum : count ≤ waiting happened.log
  pub below : IsStuckBelow happened id

module _ (values : Values) (start : EndLog) (role : Role) (spans : Spans)
    (keeps : ℕ → Option Stream) (id : ℕ) (stream : Stream) where
  -- what is kept while this is to be sent on the stream
  abbrev pub keeps_to : Outgoing → ℕ → Option Stream
  keeps_to outgoing = keeps_with keeps id (with_outgoing stream outgoing)

  -- A message waits on the stream, which is active.
  pub record IsSendingOn (count : ℕ) (conn : Conn) (happened : EndLog) (waits : Waiting) : Type 0
    where
      pub pumping : IsPumping values start count conn role spans
          (keeps_to (outgoings.Waiting waits)) happened id
      pub alive : active happened.log id ≡ true
      pub others : KeepsActiveBut happened.log (keeps_to (outgoings.Waiting waits)) id

  -- All of it was sent. That may have closed the stream.
  pub record HasSent (count : ℕ) (conn : Conn) (happened : EndLog) : Type 0 where
    pub pumping : IsPumping values start count conn role spans (keeps_to outgoings.Sent)
        happened id
    pub others : KeepsActiveBut happened.log (keeps_to outgoings.Sent) id

  -- A call was refused: the output is full, or memory was refused.
  pub record IsStopped (count : ℕ) (conn : Conn) (after : EndLog) (waits : Waiting)
      (refusal : Refusal) : Type 0 where
    pub represents : RepresentsBy values conn role (keeps_to (outgoings.Waiting waits)) after
    pub in_step : (i : ℕ) → IsInStep spans (keeps_to (outgoings.Waiting waits) i) after i
    pub active : KeepsActiveOnly after.log (keeps_to (outgoings.Waiting waits))
    pub calls : Pumps start count (Some refusal) after
    pub lacks : LacksSpace after.log refusal
