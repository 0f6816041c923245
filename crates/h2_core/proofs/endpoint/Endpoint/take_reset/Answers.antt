-- RST_STREAM closes an active stream.
use Rattle.h2_core.proofs.Names.{ℕ, List, length, Option, arith, refl, sym, ap, ◌∙◌, ProtocolError}
use Rattle.h2_core.proofs.Names.{stream_view, state_at, close_stream, end_of, err_from_is_err_and}
use Rattle.h2_core.proofs.Names.{StreamView, owed_on, returns_credit, Reported, events_of}
use Rattle.h2_core.proofs.Names.{after_ignored, after_reported}
use Rattle.h2_frame.specs.Frames.{Reset}
use Rattle.h2_core.proofs.SoundFacts.{counted, owed_fits}
use Rattle.h2_core.proofs.ItemVerdicts.{fault_taken, ignored_taken, report_taken}
use Rattle.h2_core.proofs.StepEnds.{with_waiting}
use Rattle.h2_core.proofs.ItemVerdicts.{lacks_memory}
use Rattle.h2_core.proofs.ItemStatuses.{closed_state}
use Rattle.h2_core.proofs.ItemResets.{idle_reset, active_reset, closed_reset}
use Rattle.h2_core.proofs.endpoint.Endpoint.take_reset.Goals as goal

pub close_stream-requires-clause-counted : goal.close_stream-requires-clause-counted
close_stream-requires-clause-counted c =
    counted (end_of c.args.self.now) c.args.id (stream_view c.in-Active.stream) c.requires.sound
    (sym c.in-Active.ensures.stream)

pub close_stream-requires-clause-window : goal.close_stream-requires-clause-window
close_stream-requires-clause-window c =
    omega (
      arith,
      owed_fits (end_of c.args.self.now) c.args.id (stream_view c.in-Active.stream)
          c.requires.sound (sym c.in-Active.ensures.stream),
    )

pub returns-in-Idle : goal.returns-in-Idle
returns-in-Idle c =
    let e = end_of c.args.self.now in
    fault_taken e (Reset c.args.id c.args.code) ProtocolError c.args.self.now.list
    c.fault.result c.fault.ensures (idle_reset e c.args.id c.args.code c.in-Idle.ensures.state)

pub returns-in-ClosedByUs : goal.returns-in-ClosedByUs
unfolding after_ignored
returns-in-ClosedByUs c =
    let e = end_of c.args.self.now in
    ignored_taken e (Reset c.args.id c.args.code) c.args.self.now.list _
    (closed_reset e c.args.id c.args.code
    (closed_state c.status.result (state_at e c.args.id) c.status.ensures.state c.in-ClosedByUs.is))
    refl

pub returns-in_ok-reserve_credit-in-Active : goal.returns-in_ok-reserve_credit-in-Active
unfolding after_reported events_of
returns-in_ok-reserve_credit-in-Active c =
    let e = end_of c.args.self.now in
    report_taken e (Reset c.args.id c.args.code) c.close_stream.new.self.list _ _
    (active_reset e c.args.id c.args.code c.in-Active.ensures.state)
    (c.close_stream.ensures
    ∙ ap (λ (waiting : List ℕ). close_stream (with_waiting e waiting) c.args.id 0)
    c.reserve_credit.ensures.waiting)
    refl

pub returns-in_err-reserve_credit-in-Active : goal.returns-in_err-reserve_credit-in-Active
returns-in_err-reserve_credit-in-Active c =
    let e = end_of c.args.self.now in
    let p = err_from_is_err_and c.from_residual.result c.from_residual.ensures.1 in
    let needed =
    ap (λ (found : Option StreamView). returns_credit (owed_on found) (length e.output.waiting))
    (sym c.in-Active.ensures.stream) ∙ c.in_err-reserve_credit-in-Active.ensures.err in
    rw (p.1, p.2) (lacks_memory e (Reset c.args.id c.args.code) c.args.self.now.list Reported _
    (active_reset e c.args.id c.args.code c.in-Active.ensures.state) needed
    (ap (with_waiting e) c.reserve_credit.ensures.waiting))
