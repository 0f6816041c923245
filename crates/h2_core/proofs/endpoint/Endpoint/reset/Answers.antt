-- The code's tests are the conditions of a reset in their order, and `reset_stream` does the rest.
use Rattle.h2_core.proofs.Names.{◌+◌, ◌≤◌, refl, sym, ap, arith, ◌∙◌, err_from_is_err_and}
use Rattle.h2_core.proofs.Names.{stream_view, end_of, conditions, first_of, after_call, items_of}
use Rattle.h2_core.proofs.Names.{encoder_after_call}
use Rattle.std.proofs.Common.{is_some}
use Rattle.h2_core.proofs.SoundFacts.{counted, owed_fits}
use Rattle.h2_core.proofs.CallConditions.{refused, lacks_memory, if_err}
use Rattle.hpack.proofs.ResultLemmas.{on_ok}
use Rattle.h2_frame.proofs.EncodingLemmas.{le_passes as le-true, le_fails as le-false}
use Rattle.h2_core.proofs.endpoint.Endpoint.reset.Goals as goal

pub returns-in_err-check_up-clause-err : goal.returns-in_err-check_up-clause-err
unfolding conditions first_of
returns-in_err-check_up-clause-err c =
    let p = err_from_is_err_and c.from_residual.result c.from_residual.ensures.1 in
    let closed = c.in_err-check_up.ensures.err in
    rw (p.1, p.2, closed.0) (refused _ _ _ (rw closed.1))

pub returns-in_default-clause-err : goal.returns-in_default-clause-err
unfolding conditions first_of
returns-in_default-clause-err c =
    refused _ _ _ (rw (c.in_ok-check_up.ensures.ok, ← c.in_default.ensures))

pub returns-in_err-check_room-clause-err : goal.returns-in_err-check_room-clause-err
unfolding conditions first_of
returns-in_err-check_room-clause-err c =
    let r = c.from_residual-in_err-check_room in
    let p = err_from_is_err_and r.result r.ensures.1 in
    let full = c.in_err-check_room.ensures.err in
    rw (p.1, p.2, full.0)
    (refused _ _ _ (rw (c.in_ok-check_up.ensures.ok, ← c.in-Some.ensures, full.1)))

pub returns-then-self-ge-MAX_RESETS-clause-err : goal.returns-then-self-ge-MAX_RESETS-clause-err
unfolding conditions first_of
returns-then-self-ge-MAX_RESETS-clause-err c =
    let up = c.in_ok-check_up.ensures.ok in
    let room = c.in_ok-check_room.ensures.ok in
    refused _ _ _ (rw (up, ← c.in-Some.ensures, room, le-true 1000 _ c.if-self-ge-MAX_RESETS.true))

pub reset_stream-requires-clause-counted : goal.reset_stream-requires-clause-counted
reset_stream-requires-clause-counted c =
    let sound = c.requires.sound c.in_ok-check_up.ensures.ok in
    λ _.
    counted (end_of c.args.self.now) c.args.id (stream_view c.in-Some.stream) sound
    (sym c.in-Some.ensures)

pub reset_stream-requires-clause-window : goal.reset_stream-requires-clause-window
reset_stream-requires-clause-window c =
    let sound = c.requires.sound c.in_ok-check_up.ensures.ok in
    let e = end_of c.args.self.now in
    let stream = stream_view c.in-Some.stream in
    let fits : e.windows.recv + (e.windows.unreturned + stream.owed) ≤ 2147483647 =
    owed_fits e c.args.id stream sound (sym c.in-Some.ensures) in
    omega (arith, fits)

pub returns-then-is_err-clause-err : goal.returns-then-is_err-clause-err
unfolding conditions first_of
returns-then-is_err-clause-err c =
    let up = c.in_ok-check_up.ensures.ok in
    let room = c.in_ok-check_room.ensures.ok in
    let few = le-false 1000 _ c.if-self-ge-MAX_RESETS.false in
    lacks_memory _ _ _ (rw (up, ← c.in-Some.ensures, room, few))
    (if_err c.reset_stream.result (sym c.if-is_err.ensures.value) c.reset_stream.ensures.err)

pub returns-clause-ok : goal.returns-clause-ok
unfolding conditions first_of after_call items_of encoder_after_call
returns-clause-ok c =
    let up = c.in_ok-check_up.ensures.ok in
    let room = c.in_ok-check_room.ensures.ok in
    let few = le-false 1000 _ c.if-self-ge-MAX_RESETS.false in
    record {
      free = rw (up, ← c.in-Some.ensures, room, few);
      after = on_ok c.reset_stream.result (sym c.if-is_err.ensures.value) c.reset_stream.ensures.ok;
    }
