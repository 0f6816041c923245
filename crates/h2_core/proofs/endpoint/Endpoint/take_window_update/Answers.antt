-- WINDOW_UPDATE of a stream that isn't active.
use Rattle.h2_core.proofs.Names.{sym, WindowUpdate, ProtocolError, stream_at, state_at, end_of}
use Rattle.h2_core.proofs.Names.{after_ignored}
use Rattle.h2_core.proofs.ItemVerdicts.{fault_taken, ignored_taken}
use Rattle.h2_core.proofs.ItemStatuses.{closed_state, closed_stream}
use Rattle.h2_core.proofs.ItemUpdates.{idle_update, closed_update, widen_none}
use Rattle.h2_core.proofs.endpoint.Endpoint.take_window_update.Goals as goal

pub returns-in-Idle : goal.returns-in-Idle
returns-in-Idle c =
    let e = end_of c.args.self.now in
    fault_taken e (WindowUpdate c.args.id c.args.increment) ProtocolError c.args.self.now.list
    c.fault.result c.fault.ensures
    (idle_update e c.args.id c.args.increment c.if-id-eq0.false c.in-Idle.ensures.state)

pub returns-in-ClosedByUs : goal.returns-in-ClosedByUs
unfolding after_ignored
returns-in-ClosedByUs c =
    let e = end_of c.args.self.now in
    ignored_taken e (WindowUpdate c.args.id c.args.increment) c.args.self.now.list _
    (closed_update e c.args.id c.args.increment c.if-id-eq0.false
    (closed_state c.status.result (state_at e c.args.id) c.status.ensures.state c.in-ClosedByUs.is))
    (sym (widen_none e c.args.id c.args.increment c.if-id-eq0.false
    (closed_stream c.status.result (stream_at e c.args.id) c.status.ensures.stream
    c.in-ClosedByUs.is)))
