-- After a frame the first frame has come at an end, as long as the connection hasn't failed.
use Rattle.h2_laws_machine.proofs.Names
use Names.{◌≡◌, ℕ, ◌==◌, ◌+◌, Bool, true, false, not, ◌&&◌, ◌||◌, if◌then◌else◌, List, Option, Some}
use Names.{None, refl, ◌∙◌, Code, ProtocolError, Frame, Data, Reset, Settings, Ping, WindowUpdate}
use Names.{Item, alone, block, Begun, Values, StreamView, Verdict, ConnectionFault, StreamFault}
use Names.{NoEvent, Reported, Decoded, FrameStep, fails_with, begins_block, completes, frame_step}
use Names.{grouping_step, grouped, may_be_first, verdict_of, verdict_by_rules, End, end_view}
use Names.{stream_at, add_unreturned, set_stream, close_stream, update_stream, with_flow}
use Names.{widen_send_window, apply_own_settings, with_begun, after_reported, after_ignored}
use Names.{after_stream_fault, after_verdict, after_step, after_frame, Interrupted, next_fault}
use Names.{fault_outside, fault_inside, block_fault_code, receive_data, receive_block}
use Rattle.h2_laws_machine.proofs.RulesAtEnds.{verdict_within_limits}
use Rattle.h2_laws_machine.proofs.RecvUnprocessed.{credit_leaves}
use Rattle.h2_laws_machine.proofs.UpInvariantReads.{fault_reported, fault_resets}

-- whether the first frame has come
abbrev started : End → Bool
started e = e.reading.started

-- What is unreturned says nothing of that.
returned_started : (n : ℕ) (e : End) → started (add_unreturned n e) ≡ started e
returned_started n e = credit_leaves started e n (λ x. refl) (λ m. refl)

-- Nor does a stream that is over, by the tests.
update_started : (e : End) (i : ℕ) (stream : StreamView)
    → started (update_stream e i stream) ≡ started e
update_started e i stream = by (stream.ended_in && stream.ended_out) where
  by : (b : Bool) → started (if b then close_stream
      (set_stream e i stream) i 0 else set_stream e i stream) ≡ started e
  by true = returned_started _ _
  by false = refl

-- Nor do the parts of frames.
data_started : (e : End) (i count : ℕ) (end : Bool) (stream : Option StreamView)
    → started (receive_data e i count end stream) ≡ started e
data_started e i count end None = refl
data_started e i count end (Some stream) = update_started _ _ (with_flow stream count end)

block_started : (e : End) (i : ℕ) (end : Bool) (stream : Option StreamView)
    → started (receive_block e i end stream) ≡ started e
block_started e i end None = refl
block_started e i end (Some stream) =
    update_started e i (record stream { ended_in = stream.ended_in || end })

widened_started : (e : End) (i increment : ℕ) (stream : Option StreamView)
    → started (widen_send_window e i increment stream) ≡ started e
widened_started e i increment None = by (i == 0) where
  by : (b : Bool) → started (if b then record e {
    windows = record e.windows { send = e.windows.send + increment };
  } else e) ≡ started e
  by true = refl
  by false = refl
widened_started e i increment (Some stream) = refl

own_started : (e : End) (values : Option Values) → started (apply_own_settings e values) ≡ started e
own_started e None = refl
own_started e (Some values) = refl

-- An item that is reported leaves it.
reported_started : (e : End) (decoded : Option Decoded) (item : Item)
    → started (after_reported e decoded item) ≡ started e
unfolding after_reported
reported_started e decoded (block i end octets) = block_started _ _ _ (stream_at e i)
reported_started e decoded (alone (Data i end octets pad)) = data_started e i _ end (stream_at e i)
reported_started e decoded (alone (Reset i code)) = returned_started _ _
reported_started e decoded (alone (Settings ack pairs)) = own_started e e.own.awaited
reported_started e decoded (alone frame) = refl

-- An item without an event leaves it, or it has come with it.
ignored_started : (e : End) (decoded : Option Decoded) (item : Item) → started e ≡ true
    → started (after_ignored e decoded item) ≡ true
unfolding after_ignored
ignored_started e decoded (alone (Data i end octets pad)) is = returned_started _ _ ∙ is
ignored_started e decoded (alone (Settings false pairs)) is = refl
ignored_started e decoded (alone (Ping false octets)) is = is
ignored_started e decoded (alone (WindowUpdate i increment)) is =
    widened_started e i increment (stream_at e i) ∙ is
ignored_started e decoded item is = is

-- An item that is a fault of its stream leaves it.
fault_started : (e : End) (decoded : Option Decoded) (item : Item) (code : Code)
    → started (after_stream_fault e decoded item code) ≡ started e
unfolding after_stream_fault
fault_started e decoded (alone (Data i end octets pad)) code = returned_started _ _
fault_started e decoded item code = returned_started _ _

-- Where it had come it has after an item, and after what a frame makes of a block.
item_started : (e : End) (decoded : Option Decoded) (item : Item) (v : Verdict)
    → started e ≡ true → started (after_verdict e decoded item v) ≡ true
unfolding after_verdict
item_started e decoded item (ConnectionFault code) is = is
item_started e decoded item (StreamFault code) is = fault_started e decoded item code ∙ is
item_started e decoded item NoEvent is = ignored_started e decoded item is
item_started e decoded item Reported is = reported_started e decoded item ∙ is

step_started : (e : End) (decoded : Option Decoded) (step : FrameStep) → started e ≡ true
    → started (after_step e decoded step) ≡ true
unfolding after_step
step_started e decoded (fails_with code) is = is
step_started e decoded (begins_block begun) is = is
step_started e decoded (completes item) is = item_started (with_begun e None) decoded item _ is

-- SETTINGS start an end, by their verdict.
settings_started : (e : End) (decoded : Option Decoded) (pairs : List (ℕ × ℕ)) (v : Verdict)
    → verdict_of (end_view e) decoded (alone (Settings false pairs)) ≡ v
    → (after_verdict e decoded (alone (Settings false pairs)) v).failed ≡ None
    → started (after_verdict e decoded (alone (Settings false pairs)) v) ≡ true
unfolding after_verdict after_ignored verdict_by_rules
settings_started e decoded pairs (ConnectionFault code) is up =
    let wrong : Some code ≡ None = up in cc
settings_started e decoded pairs (StreamFault code) is up =
    absurd (fault_resets _ code (verdict_within_limits e decoded (alone (Settings false pairs))
    (StreamFault code) is (λ other wrong. cc)))
settings_started e decoded pairs NoEvent is up = refl
settings_started e decoded pairs Reported is up =
    absurd (fault_reported _ (verdict_within_limits e decoded (alone (Settings false pairs))
    Reported is (λ other wrong. cc)))

-- what the first frame makes of the block that has begun
abbrev first_step : Option Begun → Frame → FrameStep
first_step begun frame =
    if not (may_be_first frame) then fails_with ProtocolError
    else grouping_step begun frame (next_fault begun frame)

-- The first frame starts an end.
first_started : (e : End) (decoded : Option Decoded) (begun : Option Begun) (frame : Frame)
    → (after_step e decoded (first_step begun frame)).failed ≡ None
    → started (after_step e decoded (first_step begun frame)) ≡ true
unfolding after_step may_be_first grouping_step grouped fault_outside fault_inside
first_started e decoded None (Settings false pairs) up = settings_started _ _ pairs _ refl up
first_started e decoded (Some begun) (Settings false pairs) up =
    let wrong : Some (block_fault_code Interrupted) ≡ None = up in cc
first_started e decoded begun frame up = let wrong : Some ProtocolError ≡ None = up in cc

-- The step of the first frame.
is_first : (e : End) (frame : Frame) → started e ≡ false
    → frame_step (end_view e) frame ≡ first_step e.reading.begun frame
unfolding frame_step
is_first e frame none = rw none refl

-- After a frame the first one has come, by whether it had before.
started_by : (e : End) (decoded : Option Decoded) (frame : Frame) (b : Bool) → started e ≡ b
    → (after_frame e decoded frame).failed ≡ None → started (after_frame e decoded frame) ≡ true
unfolding after_frame
started_by e decoded frame true is up = step_started e decoded (frame_step (end_view e) frame) is
started_by e decoded frame false is up =
    let first = is_first e frame is in
    rw first (first_started e decoded e.reading.begun frame (rw first at up))

-- After a frame the first one has come.
pub started_frame : (e : End) (decoded : Option Decoded) (frame : Frame)
    → (after_frame e decoded frame).failed ≡ None → (after_frame e decoded frame).reading.started
    ≡ true
started_frame e decoded frame up = started_by e decoded frame e.reading.started refl up
