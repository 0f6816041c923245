-- The code's tests are the conditions of a wider window in their order, and what it writes is the
-- machine's.
use Rattle.h2_core.proofs.Names.{ℕ, ◌+◌, ◌≤◌, List, refl, sym, ap, arith, ◌∙◌}
use Rattle.h2_core.proofs.Names.{err_from_is_err_and, WindowUpdate, End, end_view, end_of}
use Rattle.h2_core.proofs.Names.{conditions, first_of, after_call, items_of, encoder_after_call}
use Rattle.h2_core.proofs.CallConditions.{refused, lacks_memory}
use Rattle.hpack.proofs.ResultLemmas.{on_ok}
use Rattle.h2_core.proofs.SoundFacts.{connection_fits}
use Rattle.h2_core.proofs.StepEnds.{with_waiting, item-added}
use Rattle.h2_core.proofs.StepFrames.{update-written, length-update}
use Rattle.h2_core.proofs.StepRelease.{widen-test, widen-allowed}
use Rattle.h2_core.proofs.endpoint.Endpoint.widen.Goals as goal

pub returns-in_err-check_up-clause-err : goal.returns-in_err-check_up-clause-err
unfolding conditions first_of
returns-in_err-check_up-clause-err c =
    let p = err_from_is_err_and c.from_residual.result c.from_residual.ensures.1 in
    let closed = c.in_err-check_up.ensures.err in
    rw (p.1, p.2, closed.0) (refused _ _ _ (rw closed.1))

pub returns-in_err-check_room-clause-err : goal.returns-in_err-check_room-clause-err
unfolding conditions first_of
returns-in_err-check_room-clause-err c =
    let r = c.from_residual-in_err-check_room in
    let p = err_from_is_err_and r.result r.ensures.1 in
    let full = c.in_err-check_room.ensures.err in
    rw (p.1, p.2, full.0) (refused _ _ _ (rw (c.in_ok-check_up.ensures.ok, full.1)))

pub returns-then-count-eq0-clause-err : goal.returns-then-count-eq0-clause-err
unfolding conditions first_of
returns-then-count-eq0-clause-err c =
    let e = end_of c.args.self.now in
    let up = c.in_ok-check_up.ensures.ok in
    let room = c.in_ok-check_room.ensures.ok in
    let within = (c.requires.sound up).ranges.granted in
    refused _ _ _ (rw (
      up,
      room,
      widen-test c.args.count e.windows.granted within
          c.then-count-eq0.either,
    ))

pub returns-then-is_err-clause-err : goal.returns-then-is_err-clause-err
unfolding conditions first_of
returns-then-is_err-clause-err c =
    let e = end_of c.args.self.now in
    let up = c.in_ok-check_up.ensures.ok in
    let room = c.in_ok-check_room.ensures.ok in
    let within = (c.requires.sound up).ranges.granted in
    lacks_memory _ _ _
    (rw (up, room, widen-allowed c.args.count e.windows.granted (omega arith) (omega (arith, within))))
    (ap (with_waiting e) c.reserve.ensures.waiting)

pub add_frame-requires-clause-writable : goal.add_frame-requires-clause-writable
add_frame-requires-clause-writable c = update-written 0 c.args.count (omega arith) (omega arith)

pub add_frame-requires-clause-short : goal.add_frame-requires-clause-short
add_frame-requires-clause-short c = omega (arith, length-update 0 c.args.count)

pub add_frame-requires-clause-room : goal.add_frame-requires-clause-room
add_frame-requires-clause-room c =
    omega (
      arith,
      length-update 0 c.args.count,
      on_ok c.reserve.result (sym c.if-is_err.ensures.value) c.reserve.ensures.ok,
    )

-- an end whose peer may send `count` octets more, for good
abbrev widened : End → ℕ → End
widened e count = record e {
  windows = record e.windows {
    recv = e.windows.recv + count;
    granted = e.windows.granted + count;
  };
}

pub returns-clause-ok : goal.returns-clause-ok
unfolding conditions first_of after_call items_of encoder_after_call
returns-clause-ok c =
    let e = end_of c.args.self.now in
    let up = c.in_ok-check_up.ensures.ok in
    let room = c.in_ok-check_room.ensures.ok in
    let within = (c.requires.sound up).ranges.granted in
    record {
      free = rw (
        up,
        room,
        widen-allowed c.args.count e.windows.granted (omega arith)
            (omega (arith, within)),
      );
      after =
          ap (λ (octets : List ℕ). widened (with_waiting e octets) c.args.count)
          (item-added (end_view e).max_payload (WindowUpdate 0 c.args.count) e.output.waiting
          c.reserve.new.self.waiting c.add_frame.new.self.waiting c.reserve.ensures.waiting
          c.add_frame.ensures.waiting);
    }
