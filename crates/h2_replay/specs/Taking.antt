-- A connection after octets are taken, and the turns that are kept of it.
use Rattle.std.specs.Prelude.{◌≡◌, ℕ, ◌≤◌, nat_lt, if◌then◌else◌, List, [], ◌++◌, length, take}
use Rattle.std.specs.Prelude.{Option, Some, None}
use Rattle.std.specs.Option.{option_map}
use Rattle.h2_frame.specs.declared.code.Code.{Code}
use Rattle.h2_spec_log.specs.Acts.{Values}
use Rattle.h2_spec_log.specs.Acts as logs
use Rattle.h2_spec_log.specs.Events.{Event}
use Rattle.h2_spec_log.specs.Log.{Log}
use Rattle.h2_laws_end.specs.Takes.{TakeAnswer, Took, Failed, MayTake, events_answered}
use Rattle.h2_laws_end.specs.Replays.{TakesAll, IsCalledAgain}
use Rattle.h2_conn.specs.declared.conn.Conn.{Conn}
use Rattle.h2_conn.specs.Conn.{ConnRepresents}
use Rattle.h2_replay.specs.declared.taking.Taking.{Taking}
use Rattle.h2_replay.specs.declared.taking.Next.{Next}
use Rattle.h2_replay.specs.declared.taking.Next.TheVariants as nexts
use Rattle.h2_replay.specs.declared.turns.Answer.{Answer}
use Rattle.h2_replay.specs.declared.turns.Answer.TheVariants as answers
use Rattle.h2_replay.specs.declared.turns.Turn.{Turn}
use Rattle.h2_replay.specs.Values.{KeptEvent, kept_event_value}
use Rattle.h2_replay.specs.Replay.{kept_by_octets, all_by_octets}

-- the answer of a call of `take`, by the code with which the connection has failed
abbrev pub answered_by : Option Code → ℕ → Option KeptEvent → TakeAnswer
answered_by None used event = Took used (option_map kept_event_value event)
answered_by (Some code) used event = Failed code

abbrev pub taken_answer : Taking → TakeAnswer
taken_answer taking = answered_by taking.fault taking.used taking.event

-- what it reported
abbrev pub reported_by : Option Code → Option KeptEvent → List Event
reported_by None event = events_answered (option_map kept_event_value event)
reported_by (Some code) event = []

abbrev pub taken_events : Taking → List Event
taken_events taking = reported_by taking.fault taking.event

-- how a replay goes on after it
abbrev pub next_by : Option Code → Option KeptEvent → ℕ → ℕ → Next
next_by (Some code) event used size = nexts.Failed code
next_by None (Some event) used size = nexts.Again used
next_by None None used size = if nat_lt used size then nexts.Again used else nexts.Done

abbrev pub next_of : Taking → ℕ → Next
next_of taking size = next_by taking.fault taking.event taking.used size

-- It goes on within a piece of `size` octets.
abbrev pub IsWithinPiece : Next → ℕ → Type 0
IsWithinPiece (nexts.Again used) size = used ≤ size
IsWithinPiece nexts.Done size = Unit {0}
IsWithinPiece (nexts.Failed code) size = Unit {0}

-- Whatever log it represented: the call of `take` may have this answer, has used these octets, and
-- the connection represents the log with it.
pub record TakesFrom (values : Values) (log : Log) (piece : List ℕ) (taking : Taking) (new : Conn)
    : Type 0 where
  pub after : Log
  pub may : MayTake log piece (taken_answer taking) after
  pub input : after.input ≡ log.input ++ take taking.used piece
  pub represents : ConnRepresents values new after

abbrev pub TakesCall : Conn → List ℕ → Taking → Conn → Type 0
TakesCall old piece taking new =
    (values : Values) (log : Log) → ConnRepresents values old log
    → TakesFrom values log piece taking new

-- The turns that were kept since are those that were added to the log, octet by octet.
pub record KeepsNews (log after : Log) (old new : List Turn) : Type 0 where
  pub news : List logs.Turn
  pub turns : after.turns ≡ news ++ log.turns
  pub same : kept_by_octets new ≡ kept_by_octets old ++ all_by_octets news

-- how a replay goes on after a call of `take`
abbrev pub GoesOn : Log → List ℕ → Next → Log → Type 0
GoesOn log piece (nexts.Again used) after =
    (event : Option Event) × MayTake log piece (Took used event) after × (used ≤ length piece)
    × IsCalledAgain piece used event
GoesOn log piece nexts.Done after = MayTake log piece (Took (length piece) None) after
GoesOn log piece (nexts.Failed code) after = MayTake log piece (Failed code) after

pub record TakesPieceOf (values : Values) (log : Log) (piece : List ℕ) (old : List Turn)
    (next : Next) (turns : List Turn) (new : Conn) : Type 0 where
  pub after : Log
  pub goes_on : GoesOn log piece next after
  pub keeps : KeepsNews log after old turns
  pub represents : ConnRepresents values new after

abbrev pub TakesPiece : Conn → List ℕ → List Turn → Next → List Turn → Conn → Type 0
TakesPiece old piece turns next kept new =
    (values : Values) (log : Log) → ConnRepresents values old log
    → TakesPieceOf values log piece turns next kept new

-- the fault of an answer
-- rule: replay (own) A replay keeps each act, its answer, its octets and its events
abbrev pub fault_of_answer : Answer → Option Code
fault_of_answer (answers.Fault code) = Some code
fault_of_answer answer = None

-- Octets are handed to `take` until they are used and nothing is reported, or the connection fails.
pub record TakesAllOf (values : Values) (log : Log) (octets : List ℕ) (old : List Turn)
    (answer : Answer) (turns : List Turn) (new : Conn) : Type 0 where
  pub after : Log
  pub all : TakesAll log octets (fault_of_answer answer) after
  pub keeps : KeepsNews log after old turns
  pub represents : ConnRepresents values new after

-- The answer is that it is done, or the fault.
abbrev pub IsTakeAnswer : Answer → Type 0
IsTakeAnswer answers.Done = Unit {0}
IsTakeAnswer (answers.Fault code) = Unit {0}
IsTakeAnswer (answers.Id id) = ⊥
IsTakeAnswer (answers.Count count) = ⊥
IsTakeAnswer (answers.Refused refusal) = ⊥

pub record ReplayTakesOctets (old : Conn) (octets : List ℕ) (turns : List Turn) (answer : Answer)
    (kept : List Turn) (new : Conn) : Type 0 where
  pub answers : IsTakeAnswer answer
  pub takes : (values : Values) (log : Log) → ConnRepresents values old log
      → TakesAllOf values log octets turns answer kept new
