-- DATA by the state of its stream, and within both windows.
use Rattle.h2_core.proofs.Names.{◌≡◌, ◌&&◌, ℕ, Option, true, false, sym, ap, ◌∙◌, inl, inr, refl}
use Rattle.h2_core.proofs.Names.{[], ◌∷◌, None, arith, stream_view, ProtocolError, FlowControlError}
use Rattle.h2_core.proofs.Names.{StreamClosed, exceeds, alone, frame_of_data, end_of, end_view}
use Rattle.h2_core.proofs.Names.{Reported, needs_memory, err_from_is_err_and, stream_of}
use Rattle.h2_core.proofs.Names.{stream_of_item, events_of, after_stream_fault}
use Rattle.std.proofs.lemmas.Bool.{and_from}
use Rattle.h2_spec_log.specs.Events.{DataEvent}
use Rattle.h2_core.proofs.SoundFacts.{counted, owed_fits, send_near, recv_near}
use Rattle.h2_core.proofs.ItemWindows.{narrowed_is, narrowed_near, exceeds_asked, within_asked}
use Rattle.h2_core.proofs.ItemWindows.{none_exceeds}
use Rattle.h2_core.proofs.ItemVerdicts.{fault_taken, fault_item, report_taken, lacks_memory}
use Rattle.h2_core.proofs.StepEnds.{with_waiting}
use Rattle.h2_core.proofs.ItemData.{HasFlow, idle_data, past_data, beyond_connection, beyond_stream}
use Rattle.h2_core.proofs.ItemData.{discarded_taken, late_data, reported_data, reported_after}
use Rattle.h2_core.proofs.endpoint.Endpoint.take_data.Goals.{else-frame-gt0-via-then-frame-gt0+else-stream-from}
use Rattle.h2_core.proofs.endpoint.Endpoint.take_data.Goals.{else-frame-gt0-via-else-frame-gt0}
use Rattle.h2_core.proofs.endpoint.Endpoint.take_data.Goals.{Joined-else-frame-gt0}
use Rattle.h2_core.proofs.endpoint.Endpoint.take_data.Goals.{After-reserve_if_over}
use Rattle.h2_core.proofs.endpoint.Endpoint.take_data.Goals as goal

pub returns-in-Idle : goal.returns-in-Idle
returns-in-Idle c =
    let e = end_of c.args.self.now in
    λ (pad : Option ℕ) (flow : HasFlow c.args.frame pad).
    fault_taken e (frame_of_data c.args.frame pad) ProtocolError c.args.self.now.list c.fault.result
    c.fault.ensures (idle_data e c.args.frame pad flow c.in-Idle.ensures.state)

pub returns-in-Closed : goal.returns-in-Closed
returns-in-Closed c =
    let e = end_of c.args.self.now in
    λ (pad : Option ℕ) (flow : HasFlow c.args.frame pad).
    fault_taken e (frame_of_data c.args.frame pad) StreamClosed c.args.self.now.list
    c.fault-in-Closed.result c.fault-in-Closed.ensures
    (past_data e c.args.frame pad flow c.in-Closed.ensures.state)

pub returns-in-ClosedByUs : goal.returns-in-ClosedByUs
returns-in-ClosedByUs c =
    let e = end_of c.args.self.now in
    λ (pad : Option ℕ) (flow : HasFlow c.args.frame pad).
    discarded_taken e c.args.frame pad c.discard_data.new.self.list c.discard_data.result _ flow
    (sym c.in-ClosedByUs.ensures.state) c.if-frame-self.true c.discard_data.ensures

pub returns-in-ClosedByUs-2 : goal.returns-in-ClosedByUs-2
returns-in-ClosedByUs-2 c =
    let e = end_of c.args.self.now in
    λ (pad : Option ℕ) (flow : HasFlow c.args.frame pad).
    fault_taken e (frame_of_data c.args.frame pad) FlowControlError c.args.self.now.list
    c.fault-in-ClosedByUs-2.result c.fault-in-ClosedByUs-2.ensures
    (beyond_connection e c.args.frame pad flow (inl (sym c.in-ClosedByUs-2.ensures.state))
    c.if-frame-self.false)

pub returns-then-frame-self-2 : goal.returns-then-frame-self-2
returns-then-frame-self-2 c =
    let e = end_of c.args.self.now in
    λ (pad : Option ℕ) (flow : HasFlow c.args.frame pad).
    fault_taken e (frame_of_data c.args.frame pad) FlowControlError c.args.self.now.list
    c.fault-then-frame-self-2.result c.fault-then-frame-self-2.ensures
    (beyond_connection e c.args.frame pad flow (inr (sym c.in-Active.ensures.state))
    c.if-frame-self-2.true)

pub returns-then-stream : goal.returns-then-stream
unfolding after_stream_fault stream_of_item stream_of
returns-then-stream c =
    let e = end_of c.args.self.now in
    λ (pad : Option ℕ) (flow : HasFlow c.args.frame pad).
    fault_item c.args.self.now c.reset_for_fault.new.self
    (frame_of_data c.args.frame pad) StreamClosed
    c.args.frame.flow c.reset_for_fault.result
    (late_data e c.args.frame pad (stream_view c.in-Active.stream) flow
    (sym c.in-Active.ensures.stream) c.if-stream.true c.if-frame-self-2.false)
    (rw flow refl) c.reset_for_fault.ensures

pub returns-then-stream-from : goal.returns-then-stream-from
returns-then-stream-from c =
    let e = end_of c.args.self.now in
    let stream = stream_view c.in-Active.stream in
    let active = sym c.in-Active.ensures.stream in
    let near = recv_near e c.args.frame.stream stream c.requires.sound active in
    λ (pad : Option ℕ) (flow : HasFlow c.args.frame pad).
    fault_taken e (frame_of_data c.args.frame pad) FlowControlError c.args.self.now.list
    c.fault-then-stream-from.result c.fault-then-stream-from.ensures
    (beyond_stream e c.args.frame pad stream flow active c.if-stream.false c.if-frame-self-2.false
    (exceeds_asked c.args.frame.flow stream.recv_window c.from.result near c.from.ensures
    c.from.type_inv c.if-frame-gt0.true c.if-stream-from.true))

pub overflow_add-changed : goal.overflow_add-changed
overflow_add-changed c =
    omega (
      arith,
      owed_fits (end_of c.args.self.now) c.args.frame.stream (stream_view c.in-Active.stream)
          c.requires.sound (sym c.in-Active.ensures.stream),
      c.if-frame-self-2.false,
    )

-- The output goes on after the call as before it.
writes : (c : After-reserve_if_over) → c.args.self.now.failed ≡ None
    → c.reserve_if_over.new.output.ended ≡ false
writes c up = c.reserve_if_over.ensures.ended ∙ c.args.self.now.writes up

pub invariant_of-self : goal.invariant_of-self
invariant_of-self c =
    assumption (writes (goal.at.invariant_of-self c).After-reserve_if_over, c.args.self.now)

pub invariant_of-self-2 : goal.invariant_of-self-2
invariant_of-self-2 c =
    assumption (writes (goal.at.invariant_of-self-2 c).After-reserve_if_over, c.args.self.now)

-- The octets are within the window of the stream.
within : (c : Joined-else-frame-gt0)
    → exceeds c.args.frame.flow c.in-Active.stream.recv_window ≡ false
within c =
    let near = recv_near _ _ _ c.requires.sound (sym c.in-Active.ensures.stream) in
    elim c.else-frame-gt0.branch [
      | else-frame-gt0-via-then-frame-gt0+else-stream-from w ↦
          within_asked c.args.frame.flow _ w.from.result near w.from.ensures w.from.type_inv
          w.if-stream-from.false
      | else-frame-gt0-via-else-frame-gt0 w ↦ none_exceeds c.args.frame.flow _ w.if-frame-gt0.false
    ]

pub update_stream-requires-clause-near : goal.update_stream-requires-clause-near
update_stream-requires-clause-near c =
    let e = end_of c.args.self.now in
    let id = c.args.frame.stream in
    let stream = stream_view c.in-Active.stream in
    let active = sym c.in-Active.ensures.stream in
    let near = recv_near e id stream c.requires.sound active in
    let within = within (goal.at.update_stream-requires-clause-near c).Joined-else-frame-gt0 in
    record {
      send = send_near e id stream c.requires.sound active;
      recv =
          rw (narrowed_is c.in-Active.stream.recv_window c.from-2.result c.args.frame.flow near
          c.from-2.ensures (omega (
            arith,
            c.if-frame-self-2.false,
            owed_fits e id stream
                c.requires.sound active,
          )))
          (narrowed_near c.in-Active.stream.recv_window c.args.frame.flow near within);
    }

pub update_stream-requires-clause-counted : goal.update_stream-requires-clause-counted
update_stream-requires-clause-counted c =
    counted (end_of c.args.self.now) c.args.frame.stream (stream_view c.in-Active.stream)
    c.requires.sound (sym c.in-Active.ensures.stream)

pub update_stream-requires-clause-window : goal.update_stream-requires-clause-window
update_stream-requires-clause-window c =
    omega (
      arith,
      owed_fits (end_of c.args.self.now) c.args.frame.stream (stream_view c.in-Active.stream)
          c.requires.sound (sym c.in-Active.ensures.stream),
      c.if-frame-self-2.false,
    )

pub returns-in_err-reserve_if_over : goal.returns-in_err-reserve_if_over
returns-in_err-reserve_if_over c =
    let e = end_of c.args.self.now in
    let id = c.args.frame.stream in
    let stream = stream_view c.in-Active.stream in
    let active = sym c.in-Active.ensures.stream in
    let within = within (goal.at.returns-in_err-reserve_if_over c).Joined-else-frame-gt0 in
    let p = err_from_is_err_and c.from_residual.result c.from_residual.ensures.1 in
    let (over, due) = c.in_err-reserve_if_over.ensures.err in
    λ (pad : Option ℕ) (flow : HasFlow c.args.frame pad).
    let needed : needs_memory (end_view e) Reported (alone (frame_of_data c.args.frame pad))
    ≡ true =
    rw active (and_from (c.args.frame.end && c.in-Active.stream.state.ended_out) _ over
    (rw (← flow) due)) in
    rw (p.1, p.2) (lacks_memory e (frame_of_data c.args.frame pad) c.args.self.now.list Reported _
    (reported_data e c.args.frame pad (stream_view c.in-Active.stream) flow active
    c.if-stream.false c.if-frame-self-2.false within) needed
    (ap (with_waiting e) c.reserve_if_over.ensures.waiting))

pub returns : goal.returns
unfolding events_of
returns c =
    let e = end_of c.args.self.now in
    let id = c.args.frame.stream in
    let stream = stream_view c.in-Active.stream in
    let active = sym c.in-Active.ensures.stream in
    let within = within (goal.at.returns c).Joined-else-frame-gt0 in
    λ (pad : Option ℕ) (flow : HasFlow c.args.frame pad).
    report_taken e (frame_of_data c.args.frame pad) c.update_stream.new.self.list _ _
    (reported_data e c.args.frame pad stream flow active c.if-stream.false
    c.if-frame-self-2.false within)
    (c.update_stream.ensures.after
    ∙ reported_after e c.args.frame pad stream _ _ flow active c.if-stream.false
    (narrowed_is c.in-Active.stream.recv_window c.from-2.result c.args.frame.flow
    (recv_near e id stream c.requires.sound active) c.from-2.ensures
    (omega (
      arith,
      c.if-frame-self-2.false,
      owed_fits e id stream c.requires.sound
          active,
    )))
    c.reserve_if_over.ensures.waiting)
    (ap (λ (count : ℕ). DataEvent id c.args.frame.octets.now count c.args.frame.end ∷ []) flow)
