-- By the lemmas on SETTINGS as an item.
use Rattle.h2_core.proofs.Names.{◌≡◌, ◌+◌, ◌<◌, ◌≤◌, length, min, true, ap, arith}
use Rattle.h2_core.proofs.Names.{err_from_is_err_and, lent_pairs, value_after, first_allowed}
use Rattle.h2_core.proofs.Names.{end_of, streams_allowed_by, with_values}
use Rattle.h2_core.proofs.OwnItems.{settings_stop, settings_over, settings_taken, window_after}
use Rattle.h2_core.proofs.OwnItems.{frame_after, streams_after, settings_lacks}
use Rattle.h2_core.proofs.OwnItems.{acknowledgment_octets}
use Rattle.h2_core.proofs.StepEnds.{with_waiting}
use Rattle.h2_core.proofs.endpoint.Endpoint.take_settings.Goals as goal

pub returns-in_err-settings : goal.returns-in_err-settings
returns-in_err-settings c =
    let p = err_from_is_err_and c.from_residual.result c.from_residual.ensures.1 in
    let one = c.args.self.now in
    let stopped = settings_stop one _ _ one.list c.in_err-settings.ensures in
    rw (p.1, p.2) stopped

pub returns-then-len-gt-MAX_OUTPUT : goal.returns-then-len-gt-MAX_OUTPUT
returns-then-len-gt-MAX_OUTPUT c =
    let one = c.args.self.now in
    let over : 262144 < length one.output.waiting + 9 = omega (arith, c.len.ensures) in
    rw c.fault.ensures (settings_over (end_of one) _ one.list c.in_ok-settings.ensures.0 over)

pub returns : goal.returns
returns c =
    let one = c.args.self.now in
    let pairs = lent_pairs c.args.pairs in
    let settings = c.in_ok-settings.settings in
    let values : settings ≡ with_values one.peer pairs = c.in_ok-settings.ensures.1 in
    let within : length one.output.waiting + 9 ≤ 262144 = omega (arith, c.len.ensures) in
    let window : value_after 4 one.streams.send_initial pairs ≡ settings.initial_window_size =
    rw (← one.initial, values) (window_after one.peer pairs) in
    let allowed : min 1000 (value_after 3
    (first_allowed one.started (streams_allowed_by one.started one.peer.max_concurrent_streams))
    pairs)
    ≡ streams_allowed_by true settings.max_concurrent_streams =
    rw values (streams_after one.peer one.started pairs one.unsaid) in
    let frame : value_after 5 one.peer.max_frame_size pairs ≡ settings.max_frame_size =
    rw values (frame_after one.peer pairs) in
    rw (
      c.set_send_initial.ensures,
      c.add_settings.ensures.waiting,
      acknowledgment_octets,
      c.limit_encoder.ensures,
      c.reserve.ensures.waiting,
    )
    (settings_taken (end_of one) pairs one.list _ _ _ c.in_ok-settings.ensures.0 within window
    allowed frame)

pub returns-in_err-reserve : goal.returns-in_err-reserve
returns-in_err-reserve c =
    let one = c.args.self.now in
    let result = c.from_residual-in_err-reserve.result in
    let p = err_from_is_err_and result c.from_residual-in_err-reserve.ensures.1 in
    let within : length one.output.waiting + 9 ≤ 262144 = omega (arith, c.len.ensures) in
    rw (p.1, p.2) (settings_lacks (end_of one) (lent_pairs c.args.pairs) one.list _
    c.in_ok-settings.ensures.0 within (ap (with_waiting (end_of one)) c.reserve.ensures.waiting))
