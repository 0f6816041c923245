-- What the steps of a pass make of an end: a share of a stream, and the shares of a span of
-- streams.
use Rattle.std.specs.Prelude.{◌≡◌, ◌⊎◌, ◌≤◌, ◌<◌, ℕ, ◌+◌, true, false, Bool, Option, Some, None}
use Rattle.std.specs.Prelude.{Result, Ok, Err}
use Rattle.h2_spec_log.specs.declared.refusal.Refusal.{Refusal}
use Rattle.h2_spec_log.specs.declared.refusal.Refusal.TheVariants.{Memory}
use Rattle.h2_numbers.specs.Entries.{NumberEntries}
use Rattle.h2_numbers.specs.Lends.{WritesThrough}
use Rattle.h2_conn.specs.declared.conn.Conn.{Conn}
use Rattle.h2_spec_log.specs.Acts.{Values}
use Rattle.h2_spec_log.specs.Log.{active, waiting}
use Rattle.h2_ends.specs.declared.end.End.{End}
use Rattle.h2_ends.specs.declared.outgoing.Outgoing.TheVariants as outgoings
use Rattle.h2_ends.specs.declared.outgoing.Stream.{Stream}
use Rattle.h2_ends.specs.declared.outgoing.Waiting.{Waiting}
use Rattle.h2_ends.specs.declared.passing.Pass.{Pass}
use Rattle.h2_ends.specs.declared.span.Span.{Span}
use Rattle.h2_ends.specs.declared.sending.SendState.{SendState}
use Rattle.h2_ends.specs.declared.sending.SendState.TheVariants.{Idle, Sent, Stuck, Full}
use Rattle.h2_ends.specs.Ends.{EndLog}
use Rattle.h2_ends.specs.Passes.{Waits, Halt, Stopped, Shares, PassesOver, IsNoError}
use Rattle.h2_ends.specs.Passes.{end_with_turn, rest_of, sizes_by}
use Rattle.h2_ends.specs.Represents.{EndRepresents, RepresentsBut, InSpan, WaitsWithin, kept_at}
use Rattle.h2_ends.specs.Pumping.{with_outgoing}
use Rattle.h2_ends.specs.Sends.{NoneWaits, WaitsAsBefore}

-- how many octets the share of a stream has at most in a pass
abbrev pub size_of : Pass → ℕ → ℕ
size_of pass i = sizes_by pass.turn pass.most i

-- The same pass goes on: it began so, and has shares of this size.
pub record IsSamePass (pass then : Pass) : Type 0 where
  pub most : then.most ≡ pass.most
  pub turn : then.turn ≡ pass.turn

-- A stream was given its share, which ended so.
pub record HasShare (happened : EndLog) (id : ℕ) (pass then : Pass) (halt : Option Halt)
    (after : EndLog) : Type 0 where
  pub waits : Waits happened id
  pub sent : ℕ
  pub shares : Shares (size_of pass id) id happened sent halt after
  pub rest : (stop : Halt) → halt ≡ Some stop → then.rest ≡ rest_of stop
  pub sum : then.count ≡ pass.count + sent
  pub few : then.count ≤ waiting after.log
  pub up : after.log.failed ≡ None

-- Nothing waited on the stream; or it was given its share, and all that waited was sent, or the
-- pass
-- goes on, or it ends there.
unfoldable pub IsShared : Values → (happened : EndLog) (id : ℕ) (pass : Pass)
    → Result SendState Refusal → (new : End) (then : Pass) (after : EndLog) → Type 0
IsShared values happened id pass (Ok Idle) new then after =
    (after ≡ happened) × (Waits happened id → ⊥) × NoneWaits new id × (then.count ≡ pass.count)
    × EndRepresents values new happened
IsShared values happened id pass (Ok Sent) new then after =
    HasShare happened id pass then None after × NoneWaits new id
    × RepresentsBut values new after id
IsShared values happened id pass (Ok Stuck) new then after =
    HasShare happened id pass then None after × EndRepresents values new after
IsShared values happened id pass (Ok Full) new then after =
    (halt : Halt) × HasShare happened id pass then (Some halt) after
    × IsNoError (Some (id, halt)) × EndRepresents values new after
IsShared values happened id pass (Err refusal) new then after =
    (rest : ℕ) × HasShare happened id pass then (Some (Stopped refusal rest)) after
    × (refusal ≡ Memory) × EndRepresents values new after

-- So it is whatever has happened at an end whose pass comes to the stream.
pub record GivesShare (old : End) (id : ℕ) (pass : Pass) (result : Result SendState Refusal)
    (new : End) (then : Pass) : Type 0 where
  pub waits : WaitsAsBefore old new id
  pub same : IsSamePass pass then
  pub left : then.left ≡ pass.left
  pub shared : (values : Values) (happened : EndLog) → EndRepresents values old happened
      → happened.log.failed ≡ None → active happened.log id ≡ true
      → pass.count ≤ waiting happened.log
      → (after : EndLog) × IsShared values happened id pass result new then after

-- a stream with this of its message left, or with all of it sent
abbrev pub stream_left : Stream → Result SendState Refusal → Waiting → Stream
stream_left stream (Ok Sent) left = with_outgoing stream outgoings.Sent
stream_left stream result left = with_outgoing stream (outgoings.Waiting left)

-- So it is of whatever end the connection and the message are, once what is left of the message is
-- written back.
abbrev pub SendsShare : (conn : Conn) (id : ℕ) (waits : Waiting) (pass : Pass)
    → Result SendState Refusal → (new : Conn) (left : Waiting) (then : Pass) → Type 0
SendsShare conn id waits pass result new left then =
    (old : End) (stream : Stream) (lend : Stream → NumberEntries Stream) → old.conn ≡ conn
    → kept_at id old.streams.entries ≡ Some stream → stream.outgoing ≡ outgoings.Waiting waits
    → ((next : Stream) → WritesThrough id old.streams next (lend next))
    → GivesShare old id pass result
    (record old { conn = new; streams = lend (stream_left stream result left) }) then

-- The span has those of the streams on which a message waits that are from a number up to another,
-- and no others.
pub record IsSpanOf (waits span : Span) (low high : ℕ) : Type 0 where
  pub within : (i : ℕ) → 0 < i → InSpan span i → (low ≤ i) × (i < high)
  pub all : (i : ℕ) → 0 < i → InSpan waits i → low ≤ i → i < high → InSpan span i

-- The streams from a number up to another had their shares, and the pass goes on.
pub record HasPassed (values : Values) (old : End) (happened : EndLog) (low high : ℕ)
    (pass : Pass) (new : End) (then : Pass) (after : EndLog) : Type 0 where
  pub sent : ℕ
  pub passes : PassesOver (size_of pass) happened low high sent None after
  pub sum : then.count ≡ pass.count + sent
  pub few : then.count ≤ waiting after.log
  pub up : after.log.failed ≡ None
  pub represents : EndRepresents values new after
  pub spans : new.spans ≡ old.spans
  pub others : (i : ℕ) → (i < low) ⊎ (high ≤ i)
      → kept_at i new.streams.entries ≡ kept_at i old.streams.entries
  pub left : (i : ℕ) → low ≤ i → i < high
      → WaitsWithin then.left (kept_at i new.streams.entries) i
  pub wider : (i : ℕ) → InSpan pass.left i → InSpan then.left i

-- The pass has ended at one of them.
pub record HasHalted (values : Values) (happened : EndLog) (low high : ℕ) (pass : Pass)
    (id : ℕ) (halt : Halt) (new : End) (then : Pass) (after : EndLog) : Type 0 where
  pub sent : ℕ
  pub passes : PassesOver (size_of pass) happened low high sent (Some (id, halt)) after
  pub sum : then.count ≡ pass.count + sent
  pub represents : EndRepresents values new (end_with_turn after (Some (id, halt)))

unfoldable pub IsPassed : Values → (old : End) (happened : EndLog) (low high : ℕ) (pass : Pass)
    → Result Bool Refusal → (new : End) (then : Pass) (after : EndLog) → Type 0
IsPassed values old happened low high pass (Ok true) new then after =
    HasPassed values old happened low high pass new then after
IsPassed values old happened low high pass (Ok false) new then after =
    (id : ℕ) × (halt : Halt) × IsNoError (Some (id, halt))
    × HasHalted values happened low high pass id halt new then after
IsPassed values old happened low high pass (Err refusal) new then after =
    (id rest : ℕ) × (refusal ≡ Memory)
    × HasHalted values happened low high pass id (Stopped refusal rest) new then after

-- So it is whatever has happened at an end whose pass comes to the span.
pub record PassesSpan (old : End) (span : Span) (pass : Pass) (result : Result Bool Refusal)
    (new : End) (then : Pass) : Type 0 where
  pub same : IsSamePass pass then
  pub passed : (values : Values) (happened : EndLog) (low high : ℕ)
      → EndRepresents values old happened → happened.log.failed ≡ None
      → pass.count ≤ waiting happened.log → IsSpanOf old.spans.waiting span low high
      → (after : EndLog) × IsPassed values old happened low high pass result new then after
