-- DATA: its verdict, by what the code asks, and what is made of it.
use Rattle.h2_core.proofs.Names.{◌≡◌, ◌⊎◌, ℕ, ◌<◌, ◌≤◌, ◌+◌, true, false, ℤ, pos, ◌-ℤ◌, List}
use Rattle.h2_core.proofs.Names.{length, Option, Some, None, refl, sym, ap, ◌∙◌, inl, inr}
use Rattle.h2_core.proofs.Names.{Field, ProtocolError, FlowControlError}
use Rattle.h2_core.proofs.Names.{StreamClosed, payload_of, alone, StreamView, ended_in, State, Idle}
use Rattle.h2_core.proofs.Names.{Active, ConnectionFault, StreamFault, NoEvent, Reported}
use Rattle.h2_core.proofs.Names.{verdict_of, exceeds, returns_credit, End, end_view, state_at}
use Rattle.h2_core.proofs.Names.{stream_at, narrow_recv_window, update_stream, FrameEvent}
use Rattle.h2_core.proofs.Names.{StepError, frame_of_data, TakesItem, verdict_by_rules, replies_to}
use Rattle.h2_core.proofs.Names.{after_reported, after_ignored}
use Rattle.h2_spec_log.specs.ItemRules.{exceeds_stream}
use Rattle.std.proofs.Common.{Result, Ok, Err}
use Rattle.h2_spec_log.specs.States.{ClosedByUs, Closed}
use Rattle.h2_spec_log.specs.Verdicts.{data_verdict}
use Rattle.h2_core.specs.declared.receive.DataFrame.{DataFrame}
use Rattle.h2_core.specs.Items.{DiscardsData}
use Rattle.h2_core.proofs.DataFlow.{exceeds_connection, within_connection}
use Rattle.h2_core.proofs.ItemStatuses.{active_state}
use Rattle.h2_core.proofs.ItemVerdicts.{quiet_verdict, fault_stands, report_stands, ignored_taken}
use Rattle.h2_core.proofs.ItemVerdicts.{lacks_memory}
use Rattle.h2_core.proofs.StepEnds.{with_waiting}
use Rattle.h2_core.proofs.Names.{rules}

-- The flow is the octets of the payload.
abbrev pub HasFlow : DataFrame → Option ℕ → Type 0
HasFlow one pad = one.flow ≡ length (payload_of (frame_of_data one pad))

module _ (e : End) (one : DataFrame) (pad : Option ℕ) where
  -- The verdict goes by the state of its stream.
  by_state : (state : State) → HasFlow one pad → state_at e one.stream ≡ state
      → verdict_by_rules (end_view e) None (alone (frame_of_data one pad)) ≡ data_verdict state
      (exceeds one.flow (pos e.windows.recv)) (ended_in (stream_at e one.stream))
      (exceeds_stream one.flow (stream_at e one.stream))
  unfolding verdict_by_rules
  by_state state flow is = rw (flow, is) refl

  -- On an idle stream it is a connection error, and so it is on a closed one.
  pub idle_data : HasFlow one pad → Idle ≡ state_at e one.stream
      → verdict_of (end_view e) None (alone (frame_of_data one pad)) ≡ ConnectionFault ProtocolError
  unfolding data_verdict
  idle_data flow is = fault_stands (end_view e) (frame_of_data one pad) ProtocolError
      (by_state Idle flow (sym is))

  pub past_data : HasFlow one pad → Closed ≡ state_at e one.stream
      → verdict_of (end_view e) None (alone (frame_of_data one pad)) ≡ ConnectionFault StreamClosed
  unfolding data_verdict
  past_data flow is = fault_stands (end_view e) (frame_of_data one pad) StreamClosed
      (by_state Closed flow (sym is))

  -- So is what exceeds the connection's window on any other.
  pub beyond_connection : HasFlow one pad → (state_at e one.stream ≡ ClosedByUs)
      ⊎ (state_at e one.stream ≡ Active) → e.windows.recv < one.flow
      → verdict_of (end_view e) None (alone (frame_of_data one pad)) ≡ ConnectionFault
      FlowControlError
  unfolding data_verdict
  beyond_connection flow (inl is) much =
      fault_stands (end_view e) (frame_of_data one pad) FlowControlError
      (by_state ClosedByUs flow is ∙ rw (exceeds_connection one.flow e.windows.recv much) refl)
  beyond_connection flow (inr is) much =
      fault_stands (end_view e) (frame_of_data one pad) FlowControlError (by_state Active flow is
      ∙ rw (exceeds_connection one.flow e.windows.recv much) refl)

  -- On a stream that this end has closed it has no event.
  discarded : HasFlow one pad → state_at e one.stream ≡ ClosedByUs → one.flow ≤ e.windows.recv
      → verdict_of (end_view e) None (alone (frame_of_data one pad)) ≡ NoEvent
  unfolding data_verdict replies_to
  discarded flow is few = quiet_verdict (end_view e) (frame_of_data one pad) NoEvent
      (by_state ClosedByUs flow is
      ∙ rw (within_connection one.flow e.windows.recv few) refl) refl refl

  -- On a stream that is half-closed (remote) it is a stream error.
  pub late_data : (stream : StreamView) → HasFlow one pad → stream_at e one.stream ≡ Some stream
      → stream.ended_in ≡ true → one.flow ≤ e.windows.recv
      → verdict_by_rules (end_view e) None (alone (frame_of_data one pad)) ≡ StreamFault
      StreamClosed
  unfolding data_verdict
  late_data stream flow active ended few =
      by_state Active flow (active_state e one.stream stream active)
      ∙ rw (within_connection one.flow e.windows.recv few, active, ended) refl

  -- What exceeds the stream's window is a connection error.
  pub beyond_stream : (stream : StreamView) → HasFlow one pad → stream_at e one.stream ≡ Some stream
      → stream.ended_in ≡ false → one.flow ≤ e.windows.recv
      → exceeds one.flow stream.recv_window ≡ true
      → verdict_of (end_view e) None (alone (frame_of_data one pad)) ≡ ConnectionFault
      FlowControlError
  unfolding data_verdict
  beyond_stream stream flow active unended few much =
      fault_stands (end_view e) (frame_of_data one pad) FlowControlError
      (by_state Active flow (active_state e one.stream stream active)
      ∙ rw (within_connection one.flow e.windows.recv few, active, unended, much) refl)

  -- All other is reported.
  pub reported_data : (stream : StreamView) → HasFlow one pad → stream_at e one.stream ≡ Some stream
      → stream.ended_in ≡ false → one.flow ≤ e.windows.recv
      → exceeds one.flow stream.recv_window ≡ false
      → verdict_of (end_view e) None (alone (frame_of_data one pad)) ≡ Reported
  unfolding data_verdict
  reported_data stream flow active unended few within =
      report_stands (end_view e) (frame_of_data one pad)
      (by_state Active flow (active_state e one.stream stream active)
      ∙ rw (within_connection one.flow e.windows.recv few, active, unended, within) refl)

  -- What is reported takes of both windows, and is owed.
  pub reported_after : (stream : StreamView)
      (window : ℤ) (waiting : List ℕ) → HasFlow one pad → stream_at e one.stream ≡ Some stream
      → stream.ended_in ≡ false → window ≡ stream.recv_window -ℤ pos one.flow
      → waiting ≡ e.output.waiting
      → update_stream (narrow_recv_window (with_waiting e waiting) one.flow) one.stream
      (record stream {
        recv_window = window;
        owed = stream.owed + one.flow;
        ended_in = one.end;
      }) ≡ after_reported e None (alone (frame_of_data one pad))
  unfolding after_reported
  reported_after stream window waiting flow active unended is same = search rules

  -- What is discarded is taken so.
  pub discarded_taken : (list : List Field) (result : Result (Option FrameEvent) StepError)
      (new : End) → HasFlow one pad → state_at e one.stream ≡ ClosedByUs → one.flow ≤ e.windows.recv
      → DiscardsData e one.flow result new
      → TakesItem e None (alone (frame_of_data one pad)) list result new
  unfolding after_ignored
  discarded_taken list (Ok answer) new flow is few h =
      rw h.0 (ignored_taken e (frame_of_data one pad) list new (discarded flow is few)
      (rw (← flow) h.1))
  discarded_taken list (Err stop) new flow is few h =
      rw h.0 (lacks_memory e (frame_of_data one pad) list NoEvent new (discarded flow is few)
      (ap (λ (count : ℕ). returns_credit count (length e.output.waiting)) (sym flow) ∙ h.1) h.2)
