-- What a call of `take` answers: how many octets of a piece it used, and at most one event; or the
-- code with which the connection has failed. And the log after it.
use Rattle.std.specs.Prelude.{◌≡◌, ◌≢◌, ℕ, List, [], ◌∷◌, ◌++◌, length, Option, Some, None}
use Rattle.h2_frame.specs.declared.code.Code.{Code}
use Rattle.h2_frame.specs.declared.code.Code.TheVariants.{InternalError}
use Rattle.h2_frame.specs.Frames.{Frame}
use Rattle.h2_wire.specs.declared.fault.WireFault.{WireFault}
use Rattle.h2_wire.specs.Faults.{wire_fault_code}
use Rattle.h2_spec_log.specs.Events.{Event, UnprocessedEvent}
use Rattle.h2_spec_log.specs.Log.{Log, next_unprocessed}
use Rattle.h2_spec_log.specs.ItemRules.{Decoded}
use Rattle.h2_spec_log.specs.LogSteps.{took_part, took_frame, took_fault, took_out_of_memory}
use Rattle.h2_spec_log.specs.LogSteps.{took_none}
use Rattle.h2_spec_log.specs.Histories.{TakesOctets, TakesPart, TakesFrame, TakesFault}
use Rattle.h2_spec_log.specs.Histories.{IsDecodedFor, LacksMemory}

pub data TakeAnswer : Type 0 where
  -- so many octets were used, and this was reported
  Took : (count : ℕ) (event : Option Event) → TakeAnswer
  -- the connection has failed
  Failed : (code : Code) → TakeAnswer

-- the events of an answer
abbrev pub events_answered : Option Event → List Event
events_answered None = []
events_answered (Some event) = event ∷ []

-- What is answered once a frame has ended, after so many octets: the event that was reported of it,
-- or that the connection has failed.
abbrev pub AnswersFrame : (before after : Log) → ℕ → TakeAnswer → Type 0
AnswersFrame before after count (Took n event) = (n ≡ count) × (after.failed ≡ None)
    × (after.reported ≡ events_answered event ++ before.reported)
AnswersFrame before after count (Failed code) = after.failed ≡ Some code

-- What a call may answer, and the log after it. A connection that has failed takes nothing, and
-- answers its code again. A stream that the peer doesn't process is reported before any octet is
-- used. Otherwise octets are used up to the end of one frame, or else all of the piece; or up to a
-- fault; or memory is refused.
-- rule: calls (own) take uses octets up to one frame's end, and answers one event at most
-- rule: calls (own) A fault of the octets fails the connection with its code
pub data MayTake (log : Log) (piece : List ℕ) (answer : TakeAnswer) (after : Log) : Type 0 where
  has_failed : (code : Code) → log.failed ≡ Some code → answer ≡ Failed code → after ≡ log
      → MayTake log piece answer after
  reports_unprocessed : log.failed ≡ None → next_unprocessed log ≢ 0
      → answer ≡ Took 0 (Some (UnprocessedEvent (next_unprocessed log))) → after ≡ took_none log
      → MayTake log piece answer after
  ends_no_frame : TakesOctets log → (unparsed : List ℕ) → TakesPart log.role log piece unparsed
      → answer ≡ Took (length piece) None → after ≡ took_part log piece unparsed
      → MayTake log piece answer after
  ends_frame : TakesOctets log → (octets unused : List ℕ) → piece ≡ octets ++ unused
      → (frame : Frame) (decoded : Option Decoded) → TakesFrame log.role log octets frame
      → IsDecodedFor log decoded frame → after ≡ took_frame log octets decoded frame
      → AnswersFrame log after (length octets) answer → MayTake log piece answer after
  meets_fault : TakesOctets log → (octets unused : List ℕ) → piece ≡ octets ++ unused
      → (fault : WireFault) → TakesFault log.role log octets fault
      → answer ≡ Failed (wire_fault_code fault) → after ≡ took_fault log octets fault
      → MayTake log piece answer after
  runs_out_of_memory : log.failed ≡ None → (octets unused : List ℕ) → piece ≡ octets ++ unused
      → LacksMemory log.role log octets unused → answer ≡ Failed InternalError
      → after ≡ took_out_of_memory log octets → MayTake log piece answer after

-- Memory was not refused in the call.
abbrev pub HadMemory : {log : Log} → {piece : List ℕ} → {answer : TakeAnswer} → {after : Log}
    → MayTake log piece answer after → Type 0
HadMemory (runs_out_of_memory up octets unused split may is log_is) = ⊥
HadMemory _ = Unit {0}

-- What each answer says of the log after it: how far the octets were used, which events are new,
-- and whether the connection has failed.
-- rule: calls (own) take uses octets up to one frame's end, and answers one event at most
abbrev pub AfterTake : (before after : Log) → List ℕ → TakeAnswer → Type 0
AfterTake before after piece (Took count event) =
    (octets unused : List ℕ) × (piece ≡ octets ++ unused) × (length octets ≡ count)
    × (after.input ≡ before.input ++ octets)
    × (after.reported ≡ events_answered event ++ before.reported) × (after.failed ≡ None)
AfterTake before after piece (Failed code) =
    (octets unused : List ℕ) × (piece ≡ octets ++ unused)
    × (after.input ≡ before.input ++ octets) × (after.reported ≡ before.reported)
    × (after.failed ≡ Some code)
