-- A step that takes a frame alone, by its verdict.
use Rattle.h2_core.proofs.Names.{◌≡◌, ℕ, true, false, if◌then◌else◌, List, [], ◌∷◌, Some, None}
use Rattle.h2_core.proofs.Names.{refl, ap, sym, ◌∙◌, Option, Field, Code, EnhanceYourCalm}
use Rattle.h2_core.proofs.Names.{code_number, Frame, alone, stream_of_item, max_frame_size_sent}
use Rattle.h2_core.proofs.Names.{View, Verdict, ConnectionFault, StreamFault, NoEvent, Reported}
use Rattle.h2_core.proofs.Names.{verdict_by_rules, is_stream_fault, TableState, End, end_view}
use Rattle.h2_core.proofs.Names.{after_ignored, after_reported, after_stream_fault, reset_stream}
use Rattle.h2_core.proofs.Names.{queue_output, narrow_recv_window, size-reset, FrameEvent}
use Rattle.h2_core.proofs.Names.{StepError, Fault, OutOfMemory, Endpoint, end_of, is_over_limits}
use Rattle.h2_core.proofs.Names.{ResetsForFault, TakesItem, ItemTaken, needs_memory}
use Rattle.h2_core.proofs.Names.{encoding_of_items, verdict_of, over_limits, replies_to, opened_by}
use Rattle.h2_core.proofs.Names.{events_of, after_verdict}
use Rattle.std.proofs.Common.{Err, Result, Ok}
use Rattle.h2_frame.specs.Frames.{Reset as ResetFrame}
use Rattle.h2_spec_log.specs.Events.{Event, ResetEvent}
use Rattle.h2_core.specs.Events.{event_of}
use Rattle.h2_core.proofs.Names.{rules}

-- A verdict to which nothing is replied stands.
pub quiet_verdict : (view : View) (frame : Frame) (verdict : Verdict)
    → verdict_by_rules view None (alone frame) ≡ verdict → is_stream_fault verdict ≡ false
    → replies_to verdict (alone frame) ≡ [] → verdict_of view None (alone frame) ≡ verdict
unfolding verdict_of over_limits encoding_of_items
quiet_verdict view frame verdict is calm silent = rw (is, silent, calm) refl

-- A connection error stands.
pub fault_stands : (view : View) (frame : Frame) (code : Code)
    → verdict_by_rules view None (alone frame) ≡ ConnectionFault code
    → verdict_of view None (alone frame) ≡ ConnectionFault code
unfolding replies_to
fault_stands view frame code is = quiet_verdict view frame (ConnectionFault code) is refl refl

-- So does the verdict on what is reported.
pub report_stands : (view : View) (frame : Frame)
    → verdict_by_rules view None (alone frame) ≡ Reported
    → verdict_of view None (alone frame) ≡ Reported
unfolding replies_to
report_stands view frame is = quiet_verdict view frame Reported is refl refl

-- RST_STREAM answers a stream error where that isn't too much.
pub reset_verdict_is : (e : End) (frame : Frame) (code : Code)
    → verdict_by_rules (end_view e) None (alone frame) ≡ StreamFault code
    → verdict_of (end_view e) None (alone frame)
    ≡ (if is_over_limits e then ConnectionFault EnhanceYourCalm else StreamFault code)
unfolding verdict_of over_limits replies_to
reset_verdict_is e frame code is =
    rw (is, size-reset max_frame_size_sent (stream_of_item (alone frame)) (code_number code)) refl

-- It is replied.
pub reset_stands : (e : End) (frame : Frame) (code : Code)
    → verdict_by_rules (end_view e) None (alone frame) ≡ StreamFault code → is_over_limits e ≡ false
    → verdict_of (end_view e) None (alone frame) ≡ StreamFault code
reset_stands e frame code is room = rw (reset_verdict_is e frame code is, room) refl

-- It is too much.
pub calm_stands : (e : End) (frame : Frame) (code : Code)
    → verdict_by_rules (end_view e) None (alone frame) ≡ StreamFault code → is_over_limits e ≡ true
    → verdict_of (end_view e) None (alone frame) ≡ ConnectionFault EnhanceYourCalm
calm_stands e frame code is full = rw (reset_verdict_is e frame code is, full) refl

-- The connection error is returned, and nothing has changed.
pub fault_taken : (e : End) (frame : Frame) (code : Code) (list : List Field) (stop : StepError)
    → stop ≡ Fault code 0 → verdict_of (end_view e) None (alone frame) ≡ ConnectionFault code
    → TakesItem e None (alone frame) list (Err stop) e
unfolding opened_by
fault_taken e frame code list stop is verdict = rw is (verdict, refl, refl)

-- Memory was refused, where the verdict needs some.
pub lacks_memory : (e : End) (frame : Frame) (list : List Field) (verdict : Verdict) (new : End)
    → verdict_of (end_view e) None (alone frame) ≡ verdict
    → needs_memory (end_view e) verdict (alone frame) ≡ true → new ≡ e
    → TakesItem e None (alone frame) list (Err OutOfMemory) new
lacks_memory e frame list verdict new is needed same = search rules

-- What has no event is taken.
pub ignored_taken : (e : End) (frame : Frame) (list : List Field) (new : End)
    → verdict_of (end_view e) None (alone frame) ≡ NoEvent
    → new ≡ after_ignored e None (alone frame)
    → ItemTaken e None (alone frame) list None new
unfolding after_verdict events_of
ignored_taken e frame list new verdict after = search rules

-- What is reported is taken.
pub report_taken : (e : End) (frame : Frame) (list : List Field) (answer : FrameEvent) (new : End)
    → verdict_of (end_view e) None (alone frame) ≡ Reported
    → new ≡ after_reported e None (alone frame)
    → event_of list answer ∷ [] ≡ events_of (end_view e) None Reported (alone frame)
    → ItemTaken e None (alone frame) list (Some answer) new
unfolding after_verdict
report_taken e frame list answer new verdict after events = search rules

-- A stream error is taken.
pub stream_fault_taken : (e : End) (frame : Frame) (code : Code) (list : List Field)
    (answer : FrameEvent) (new : End)
    → verdict_of (end_view e) None (alone frame) ≡ StreamFault code
    → new ≡ after_stream_fault e None (alone frame) code
    → event_of list answer ≡ ResetEvent (stream_of_item (alone frame)) (code_number code) true
    → ItemTaken e None (alone frame) list (Some answer) new
unfolding after_verdict events_of
stream_fault_taken e frame code list answer new verdict after event = search rules

-- The end after a stream is reset for a fault of it, and the result.
pub fault_item : (one new : Endpoint) (frame : Frame) (code : Code) (flow : ℕ)
    (result : Result (Option FrameEvent) StepError)
    → verdict_by_rules (end_view (end_of one)) None (alone frame) ≡ StreamFault code
    → after_stream_fault (end_of one) None (alone frame) code
    ≡ reset_stream (queue_output (narrow_recv_window (end_of one) flow)
    (alone (ResetFrame (stream_of_item (alone frame)) (code_number code)) ∷ []))
    (stream_of_item (alone frame)) flow
    → ResetsForFault one (stream_of_item (alone frame)) code flow 0 result new
    → TakesItem (end_of one) None (alone frame) new.list result (end_of new)
unfolding opened_by
fault_item one new frame code flow (Ok reported) is made h =
    rw h.1 (stream_fault_taken (end_of one) frame code new.list _ (end_of new)
    (reset_stands (end_of one) frame code is h.0) (h.2 ∙ sym made) refl)
fault_item one new frame code flow (Err (Fault fault stream)) is made h = (
  calm_stands (end_of one) frame code is h.0 ∙ ap ConnectionFault (sym h.1),
  h.2,
  h.3,
)
fault_item one new frame code flow (Err OutOfMemory) is made h =
    lacks_memory (end_of one) frame new.list (StreamFault code) (end_of new)
    (reset_stands (end_of one) frame code is h.0) refl h.1
