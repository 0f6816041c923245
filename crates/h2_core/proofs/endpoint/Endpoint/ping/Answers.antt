-- The code's tests are the conditions of PING in their order; the frame and its octets are kept.
use Rattle.h2_core.proofs.Names.{ℕ, List, Some, false, refl, sym, ap, arith, ◌∙◌}
use Rattle.h2_core.proofs.Names.{err_from_is_err_and, Ping, SendPing, End, end_view, end_of}
use Rattle.h2_core.proofs.Names.{conditions, first_of, after_call, items_of, encoder_after_call}
use Rattle.std.proofs.Common.{is_some}
use Rattle.h2_core.proofs.CallConditions.{refused, lacks_memory}
use Rattle.hpack.proofs.ResultLemmas.{on_ok}
use Rattle.h2_core.proofs.StepEnds.{with_waiting, item-added}
use Rattle.h2_core.proofs.StepFrames.{ping-written, length-ping}
use Rattle.h2_core.proofs.endpoint.Endpoint.ping.Goals as goal

pub returns-in_err-check_up-clause-err : goal.returns-in_err-check_up-clause-err
unfolding conditions first_of
returns-in_err-check_up-clause-err c =
    let p = err_from_is_err_and c.from_residual.result c.from_residual.ensures.1 in
    let closed = c.in_err-check_up.ensures.err in
    rw (p.1, p.2, closed.0) (refused _ _ _ (rw closed.1))

pub returns-in_err-check_room-clause-err : goal.returns-in_err-check_room-clause-err
unfolding conditions first_of
returns-in_err-check_room-clause-err c =
    let r = c.from_residual-in_err-check_room in
    let p = err_from_is_err_and r.result r.ensures.1 in
    let full = c.in_err-check_room.ensures.err in
    rw (p.1, p.2, full.0) (refused _ _ _ (rw (c.in_ok-check_up.ensures.ok, full.1)))

pub returns-then-is_some-clause-err : goal.returns-then-is_some-clause-err
unfolding conditions first_of
returns-then-is_some-clause-err c =
    let room = c.in_ok-check_room.ensures.ok in
    refused _ _ _ (rw (c.in_ok-check_up.ensures.ok, room, ← c.if-is_some.ensures))

pub returns-then-is_err-clause-err : goal.returns-then-is_err-clause-err
unfolding conditions first_of
returns-then-is_err-clause-err c =
    lacks_memory _ _ _
    (rw (c.in_ok-check_up.ensures.ok, c.in_ok-check_room.ensures.ok, ← c.if-is_some.ensures))
    (ap (with_waiting (end_of c.args.self.now)) c.reserve.ensures.waiting)

pub add_frame-requires-clause-writable : goal.add_frame-requires-clause-writable
add_frame-requires-clause-writable c = ping-written false c.args.octets (omega arith)

pub add_frame-requires-clause-short : goal.add_frame-requires-clause-short
add_frame-requires-clause-short c =
    omega (arith, length-ping false c.args.octets (omega arith))

pub add_frame-requires-clause-room : goal.add_frame-requires-clause-room
add_frame-requires-clause-room c =
    omega (
      arith,
      length-ping false c.args.octets (omega arith),
      on_ok c.reserve.result (sym c.if-is_err.ensures.value) c.reserve.ensures.ok,
    )

-- an end with an own PING
abbrev with_ping : End → List ℕ → End
with_ping e octets = record e { ping = Some octets }

pub returns-clause-ok : goal.returns-clause-ok
unfolding conditions first_of after_call items_of encoder_after_call
returns-clause-ok c =
    let e = end_of c.args.self.now in
    let room = c.in_ok-check_room.ensures.ok in
    record {
      free = rw (c.in_ok-check_up.ensures.ok, room, ← c.if-is_some.ensures);
      after =
          ap (λ (octets : List ℕ). with_ping (with_waiting e octets) c.args.octets)
          (item-added (end_view e).max_payload (Ping false c.args.octets) e.output.waiting
          c.reserve.new.self.waiting c.add_frame.new.self.waiting c.reserve.ensures.waiting
          c.add_frame.ensures.waiting);
    }
