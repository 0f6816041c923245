-- What the turns of a log say of its history: under the newest output and events stands the step
-- that made them, and all turns, with the calls, say the marks of its script.
use Rattle.h2_laws_why.proofs.Names
use Names.{◌≡◌, ◌∙◌, ℕ, List, [], ◌∷◌, ◌++◌, Option, refl, sym, ap, ap₂}
use Names.{None, Frame, Code, Turn, In, Out, Called, Answered, Act, Answer, shown, Log, Decoded}
use Names.{View, log_view, used, with_sent, with_reported, with_failure, with_call, took_frame}
use Names.{Mark, Octet, Call, Unprocessed, SameCalls, holds_frame, call_calls, calls_read}
use Rattle.std.proofs.Common.{map as each}
use Rattle.h2_frame.specs.Frames.{Data, GoAway, Ping, Reset, Settings}
use Rattle.h2_block.specs.Grouping.{alone, block, Item}
use Rattle.h2_spec_log.specs.Acts.{Happened}
use Rattle.h2_spec_log.specs.Events.{Event, UnprocessedEvent}
use Rattle.h2_spec_log.specs.ItemEffects.{events_of}
use Rattle.h2_spec_log.specs.ItemRules.{begins_block, completes, fails_with, frame_step, FrameStep}
use Rattle.h2_spec_log.specs.ItemRules.{replies_to}
use Rattle.h2_spec_log.specs.Log.{next_unprocessed}
use Rattle.h2_spec_log.specs.LogSteps.{owed_at_close, read, took_none, with_frame, with_step}
use Rattle.h2_spec_log.specs.LogSteps.{with_unreturned, with_verdict}
use Rattle.h2_spec_log.specs.Verdicts.{ConnectionFault, NoEvent, Reported, StreamFault, Verdict}
use Rattle.h2_laws_log.proofs.GrowthBySteps.{holds_call, holds_failure, holds_sent_unreturned}
use Rattle.h2_laws_log.proofs.GrowthBySteps.{holds_unreturned, HoldsOfFailures}
use Rattle.h2_laws_log.proofs.PartsStay.{SamePart}

-- the turns under the output and the events on top; the event of a stream that the peer doesn't
-- process is a step of its own
abbrev pub under : List Turn → List Turn
under [] = []
under (Out octets ∷ turns) = under turns
under (Happened (UnprocessedEvent id) ∷ turns) = Happened (UnprocessedEvent id) ∷ turns
under (Happened event ∷ turns) = under turns
under (turn ∷ turns) = turn ∷ turns

-- the marks of these turns and calls, the first one first
abbrev pub marks_by : List Turn → List (Act × Answer) → List Mark
marks_by [] calls = []
marks_by (In octets ∷ turns) calls = marks_by turns calls ++ each Octet octets
marks_by (Called act ∷ turns) ((made, answer) ∷ calls) = marks_by turns calls
    ++ Call made answer ∷ []
marks_by (Happened (UnprocessedEvent id) ∷ turns) calls = marks_by turns calls ++ Unprocessed ∷ []
marks_by (turn ∷ turns) calls = marks_by turns calls

-- those of a log
abbrev pub said : Log → List Mark
said log = marks_by log.turns log.calls

-- Output and events on top make no marks.
marks_under : (turns : List Turn) (calls : List (Act × Answer))
    → marks_by (under turns) calls ≡ marks_by turns calls
marks_under [] calls = refl
marks_under (Out octets ∷ turns) calls = marks_under turns calls
marks_under (Happened (UnprocessedEvent id) ∷ turns) calls = refl
marks_under (Happened event ∷ turns) calls = marks_under turns calls
marks_under (turn ∷ turns) calls = refl

-- Under output and events the second log has the turns of the first.
abbrev SameUnder : Log → Log → Type 0
SameUnder = SamePart (λ log. under log.turns)

-- It has where items are sent, credit becomes due and is returned, and the connection fails.
same_under : HoldsOfFailures SameUnder
same_under = record {
  writes = record {
    none = λ log. refl;
    twice = λ one two three a b. b ∙ a;
    sent = λ log item items. refl;
    unreturned = λ log count. refl;
  };
  failed = λ log code. refl;
}

-- What is reported of an item is on top.
events_under : (view : View) (decoded : Option Decoded) (verdict : Verdict) (item : Item)
    (turns : List Turn)
    → under (each Happened (events_of view decoded verdict item) ++ turns) ≡ under turns
unfolding events_of
events_under view decoded (ConnectionFault code) item turns = refl
events_under view decoded (StreamFault code) item turns = refl
events_under view decoded NoEvent item turns = refl
events_under view decoded Reported (block stream end octets) turns = refl
events_under view decoded Reported (alone (Data stream end octets pad)) turns = refl
events_under view decoded Reported (alone (Reset stream code)) turns = refl
events_under view decoded Reported (alone (Settings ack pairs)) turns = refl
events_under view decoded Reported (alone (Ping ack octets)) turns = refl
events_under view decoded Reported (alone (GoAway last code debug)) turns = refl
events_under view decoded Reported (alone frame) turns = refl

-- The turns of events stand on those before.
events_on : (log : Log) (events : List Event)
    → (with_reported log events).turns ≡ each Happened events ++ log.turns
unfolding with_reported
events_on log [] = refl
events_on log (event ∷ events) = refl

-- An item that is no fault of the connection puts no step on top.
item_under : (log : Log) (decoded : Option Decoded) (item : Item) (verdict : Verdict) (more : ℕ)
    → SameUnder log (with_reported (with_unreturned more
    (with_sent (read log decoded item) (replies_to verdict item)))
    (events_of (log_view log) decoded verdict item))
item_under log decoded item verdict more =
    ap under (events_on _ (events_of (log_view log) decoded verdict item))
    ∙ events_under (log_view log) decoded verdict item _
    ∙ holds_sent_unreturned SameUnder same_under.writes (read log decoded item)
    (replies_to verdict item) more

-- Nor does any item, by its verdict.
verdict_under : (log : Log) (decoded : Option Decoded) (item : Item) (verdict : Verdict)
    → SameUnder log (with_verdict log decoded item verdict)
unfolding with_verdict
verdict_under log decoded item (ConnectionFault code) =
    holds_failure SameUnder same_under code _ log
verdict_under log decoded item (StreamFault code) =
    item_under log decoded item (StreamFault code) _
verdict_under log decoded item NoEvent = item_under log decoded item NoEvent _
verdict_under log decoded item Reported = item_under log decoded item Reported _

-- Nor what a frame makes of the block that has begun.
step_under : (log : Log) (decoded : Option Decoded) (step : FrameStep)
    → SameUnder log (with_step log decoded step)
unfolding with_step
step_under log decoded (fails_with code) = holds_failure SameUnder same_under code _ log
step_under log decoded (begins_block begun) = refl
step_under log decoded (completes item) =
    verdict_under (record log { begun = None }) decoded item _

-- Under what a frame makes of the end stand the octets with which it ended.
pub frame_top : (log : Log) (octets : List ℕ) (decoded : Option Decoded) (frame : Frame)
    → under (took_frame log octets decoded frame).turns ≡ In octets ∷ log.turns
unfolding with_frame used
frame_top log octets decoded frame =
    step_under (record (used log octets []) { frames = log.frames ++ frame ∷ [] }) decoded
    (frame_step (log_view (used log octets [])) frame)

-- Under a failure stand the octets that made it.
pub failure_top : (log : Log) (octets : List ℕ) (code : Code) (last : ℕ)
    → under (with_failure code last (used log octets [])).turns ≡ In octets ∷ log.turns
unfolding with_sent used
failure_top log octets code last = refl

-- Under what a call writes stands its answer, and then the call.
pub call_top : (log : Log) (act : Act) (answer : Answer)
    → under (with_call log act answer).turns ≡ Answered (shown answer) ∷ Called act ∷ log.turns
call_top log act answer =
    holds_call SameUnder (record { failures = same_under; given = λ log more. refl }) log act
    answer

-- A log says what its calls and the turns under output and events say.
said_by : (log : Log) (turns : List Turn) (calls : List (Act × Answer)) → under log.turns ≡ turns
    → log.calls ≡ calls → said log ≡ marks_by turns calls
said_by log turns calls top made = sym (marks_under log.turns log.calls) ∙ ap₂ marks_by top made

-- What a frame makes of the end says the octets with which it ended.
pub frame_marks : (log : Log) (octets : List ℕ) (decoded : Option Decoded) (frame : Frame)
    → said (took_frame log octets decoded frame) ≡ said log ++ each Octet octets
unfolding used
frame_marks log octets decoded frame =
    said_by (took_frame log octets decoded frame) (In octets ∷ log.turns) log.calls
    (frame_top log octets decoded frame)
    (holds_frame SameCalls calls_read (used log octets []) decoded frame)

-- A failure says the octets that made it.
pub failure_marks : (log : Log) (octets : List ℕ) (code : Code) (last : ℕ)
    → said (with_failure code last (used log octets [])) ≡ said log ++ each Octet octets
unfolding with_sent used
failure_marks log octets code last = refl

-- A call says itself and its answer.
pub call_marks : (log : Log) (act : Act) (answer : Answer)
    → said (with_call log act answer) ≡ said log ++ Call act answer ∷ []
call_marks log act answer =
    said_by (with_call log act answer) (Answered (shown answer) ∷ Called act ∷ log.turns)
    ((act, answer) ∷ log.calls) (call_top log act answer) (call_calls log act answer)

-- Credit that is due says nothing.
credit_marks : (more : ℕ) (log : Log) → said (with_unreturned more log) ≡ said log
credit_marks more log =
    said_by (with_unreturned more log) (under log.turns) log.calls
    (holds_unreturned SameUnder same_under.writes more log)
    (holds_unreturned SameCalls calls_read.failures.writes more log)
    ∙ marks_under log.turns log.calls

-- A stream that is reported as unprocessed says itself.
pub none_marks : (log : Log) → said (took_none log) ≡ said log ++ Unprocessed ∷ []
unfolding with_reported
none_marks log =
    ap (λ (marks : List Mark). marks ++ Unprocessed ∷ [])
    (credit_marks (owed_at_close log (with_reported log (UnprocessedEvent (next_unprocessed log)
    ∷ [])) (next_unprocessed log)) log)
