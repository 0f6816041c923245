-- The code's tests are the conditions of a release in their order, and what it writes is the
-- machine's.
use Rattle.h2_core.proofs.Names.{◌+◌, ◌≤◌, ◌-◌, ◌++◌, ℤ, refl, sym, ap, ap₂, arith, ◌∙◌, List, ℕ}
use Rattle.h2_core.proofs.Names.{err_from_is_err_and, Release, StreamView, WindowUpdate}
use Rattle.h2_core.proofs.Names.{encoding_of, End, Stream, stream_view, is_far, TableState, end_of}
use Rattle.h2_core.proofs.Names.{◌≡◌, ◌<◌, ◌^◌, false, pos, ◌+ℤ◌, IsSoundEnd, conditions, first_of}
use Rattle.h2_core.proofs.SoundFacts.{owed_fits, send_near, recv_near}
use Rattle.h2_core.proofs.CallConditions.{refused, lacks_memory}
use Rattle.hpack.proofs.ResultLemmas.{on_ok}
use Rattle.h2_core.proofs.StepEnds.{with_table, with_waiting}
use Rattle.h2_core.proofs.StepFrames.{update-written, length-update}
use Rattle.h2_core.proofs.StepRelease.{release-owed, active-number, widened-near}
use Rattle.h2_core.proofs.StepRelease.{release-test, not-ended}
use Rattle.h2_core.proofs.ItemWindows.{widened_fits, widened_is}
use Rattle.h2_core.proofs.StepRelease.{released, release-ended, release-open}
use Rattle.hpack.proofs.Tests.{not_false as is-ended}
use Rattle.h2_core.proofs.endpoint.Endpoint.release.Goals.{then-not-stream, else-not-stream}
use Rattle.h2_core.proofs.endpoint.Endpoint.release.Goals.{In-Some}
use Rattle.h2_core.proofs.endpoint.Endpoint.release.Goals as goal

pub returns-in_err-check_up-clause-err : goal.returns-in_err-check_up-clause-err
unfolding conditions first_of
returns-in_err-check_up-clause-err c =
    let p = err_from_is_err_and c.from_residual.result c.from_residual.ensures.1 in
    let closed = c.in_err-check_up.ensures.err in
    rw (p.1, p.2, closed.0) (refused _ _ _ (rw closed.1))

pub returns-in_default-clause-err : goal.returns-in_default-clause-err
unfolding conditions first_of
returns-in_default-clause-err c =
    refused _ _ _ (rw (c.in_ok-check_up.ensures.ok, ← c.in_default.ensures))

pub returns-in_err-check_room-clause-err : goal.returns-in_err-check_room-clause-err
unfolding conditions first_of
returns-in_err-check_room-clause-err c =
    let r = c.from_residual-in_err-check_room in
    let p = err_from_is_err_and r.result r.ensures.1 in
    let full = c.in_err-check_room.ensures.err in
    rw (p.1, p.2, full.0)
    (refused _ _ _ (rw (c.in_ok-check_up.ensures.ok, ← c.in-Some.ensures, full.1)))

pub returns-then-count-eq0-clause-err : goal.returns-then-count-eq0-clause-err
unfolding conditions first_of
returns-then-count-eq0-clause-err c =
    let up = c.in_ok-check_up.ensures.ok in
    let room = c.in_ok-check_room.ensures.ok in
    refused _ _ _ (rw (up, ← c.in-Some.ensures, room, release-test _ _ c.then-count-eq0.either))

pub returns-then-is_err-clause-err : goal.returns-then-is_err-clause-err
unfolding conditions first_of
returns-then-is_err-clause-err c =
    let up = c.in_ok-check_up.ensures.ok in
    let room = c.in_ok-check_room.ensures.ok in
    let owed = release-owed c.args.count c.in-Some.stream.owed (omega arith) (omega arith) in
    lacks_memory _ _ _ (rw (up, ← c.in-Some.ensures, room, owed))
    (ap (with_waiting (end_of c.args.self.now)) c.reserve.ensures.waiting)

-- What is known where there is a stream.
sound : (c : In-Some) → IsSoundEnd (end_of c.args.self.now)
sound c = c.requires.sound c.in_ok-check_up.ensures.ok

fits : (c : In-Some) → (end_of c.args.self.now).windows.recv
    + ((end_of c.args.self.now).windows.unreturned + c.in-Some.stream.owed) ≤ 2147483647
fits c = owed_fits _ _ _ (sound c) (sym c.in-Some.ensures)

near : (c : In-Some) → is_far c.in-Some.stream.recv_window ≡ false
near c = recv_near _ _ _ (sound c) (sym c.in-Some.ensures)

wide : (c : In-Some) → c.args.count ≤ c.in-Some.stream.owed
    → is_far (c.in-Some.stream.recv_window +ℤ pos c.args.count) ≡ false
wide c enough = widened-near _ _ _ c.args.count (sound c) (sym c.in-Some.ensures) enough

pub add_frame-requires-clause-writable : goal.add_frame-requires-clause-writable
add_frame-requires-clause-writable c =
    let at = (goal.at.add_frame-requires-clause-writable c).In-Some in
    update-written c.args.id c.args.count
    (active-number _ _ _ (sound at) (sym c.in-Some.ensures)) (omega (arith, fits at))

pub add_frame-requires-clause-short : goal.add_frame-requires-clause-short
add_frame-requires-clause-short c = omega (arith, length-update c.args.id c.args.count)

pub add_frame-requires-clause-room : goal.add_frame-requires-clause-room
add_frame-requires-clause-room c =
    omega (
      arith,
      length-update c.args.id c.args.count,
      on_ok c.reserve.result (sym c.if-is_err.ensures.value) c.reserve.ensures.ok,
    )

pub overflow_add-stream : goal.overflow_add-stream
overflow_add-stream c =
    let at = (goal.at.overflow_add-stream c).In-Some in
    widened_fits c.in-Some.stream.recv_window c.from.result c.args.count (near at) c.from.ensures
    (omega (arith, fits at))

pub add_frame-requires-2-clause-writable : goal.add_frame-requires-2-clause-writable
add_frame-requires-2-clause-writable c =
    update-written 0 c.args.count (omega arith)
    (omega (arith, fits (goal.at.add_frame-requires-2-clause-writable c).In-Some))

pub add_frame-requires-2-clause-short : goal.add_frame-requires-2-clause-short
add_frame-requires-2-clause-short c = omega (arith, length-update 0 c.args.count)

pub add_frame-requires-2-clause-room : goal.add_frame-requires-2-clause-room
add_frame-requires-2-clause-room c =
    let room : 26 ≤ c.reserve.new.self.spare =
    on_ok c.reserve.result (sym c.if-is_err.ensures.value) c.reserve.ensures.ok in
    elim c.if-not-stream.branch [
      | then-not-stream w ↦
          rw w.self-is (omega (
            arith,
            room,
            length-update c.args.id c.args.count,
            length-update 0 c.args.count,
            w.add_frame.ensures.spare,
          ))
      | else-not-stream w ↦
          rw w.self-is (omega (arith, room, length-update 0 c.args.count))
    ]

pub set-requires-clause-send : goal.set-requires-clause-send
set-requires-clause-send c =
    let at = (goal.at.set-requires-clause-send c).In-Some in
    let near = send_near _ _ _ (sound at) (sym c.in-Some.ensures) in
    elim c.if-not-stream.branch [
      | then-not-stream w ↦ ap (λ (stream : Stream). is_far stream.send_window) w.stream-is ∙ near
      | else-not-stream w ↦ ap (λ (stream : Stream). is_far stream.send_window) w.stream-is ∙ near
    ]

pub set-requires-clause-recv : goal.set-requires-clause-recv
set-requires-clause-recv c =
    let at = (goal.at.set-requires-clause-recv c).In-Some in
    let small : c.args.count < 2 ^ 31 = omega (arith, fits at) in
    elim c.if-not-stream.branch [
      | then-not-stream w ↦
          ap (λ (stream : Stream). is_far stream.recv_window) w.stream-is
          ∙ ap is_far (widened_is _ w.from.result c.args.count (near at) w.from.ensures small)
          ∙ wide at (omega arith)
      | else-not-stream w ↦
          ap (λ (stream : Stream). is_far stream.recv_window) w.stream-is ∙ near at
    ]

pub overflow_add-self : goal.overflow_add-self
overflow_add-self c = omega (arith, fits (goal.at.overflow_add-self c).In-Some)

-- an end whose peer may send `count` octets more
abbrev with_recv : End → ℕ → End
with_recv e count = record e { windows = record e.windows { recv = e.windows.recv + count } }

-- a stream on which `count` octets were released
abbrev less_owed : StreamView → ℕ → StreamView
less_owed stream count = record stream { owed = stream.owed - count }

pub returns-clause-ok : goal.returns-clause-ok
unfolding conditions first_of
returns-clause-ok c =
    let e = end_of c.args.self.now in
    let stream = stream_view c.in-Some.stream in
    let count = c.args.count in
    let at = (goal.at.returns-clause-ok c).In-Some in
    let active = sym c.in-Some.ensures in
    let small : count < 2 ^ 31 = omega (arith, fits at) in
    let up = c.in_ok-check_up.ensures.ok in
    let room = c.in_ok-check_room.ensures.ok in
    let owed = release-owed count stream.owed (omega arith) (omega arith) in
    let table =
    ap (λ (table : TableState).
    with_table (with_waiting (with_recv e count) c.add_frame-2.new.self.waiting) table)
    c.set.ensures in
    record {
      free = rw (up, ← c.in-Some.ensures, room, owed);
      after = elim c.if-not-stream.branch [
        | then-not-stream w ↦
            let waiting =
            (rw w.self-is at c.add_frame-2.ensures.waiting)
            ∙ ap (λ (octets : List ℕ). octets ++ encoding_of (WindowUpdate 0 count))
            (w.add_frame.ensures.waiting
            ∙ ap (λ (octets : List ℕ). octets ++ encoding_of (WindowUpdate c.args.id count))
            c.reserve.ensures.waiting) in
            let value =
            widened_is _ w.from.result count (near at) w.from.ensures small in
            table
            ∙ ap₂ (λ (stream : Stream) (octets : List ℕ).
            released e c.args.id count (less_owed (stream_view stream) count) octets)
            w.stream-is waiting
            ∙ ap (λ (window : ℤ). released e c.args.id count
            (less_owed (record stream { recv_window = window }) count)
            ((e.output.waiting ++ encoding_of (WindowUpdate c.args.id count))
            ++ encoding_of (WindowUpdate 0 count))) value
            ∙ sym (release-open e c.args.id count stream active
            (not-ended stream.ended_in w.if-not-stream.true))
        | else-not-stream w ↦
            let waiting =
            (rw w.self-is at c.add_frame-2.ensures.waiting)
            ∙ ap (λ (octets : List ℕ). octets ++ encoding_of (WindowUpdate 0 count))
            c.reserve.ensures.waiting in
            table
            ∙ ap₂ (λ (stream : Stream) (octets : List ℕ).
            released e c.args.id count (less_owed (stream_view stream) count) octets)
            w.stream-is waiting
            ∙ sym (release-ended e c.args.id count stream active
            (is-ended stream.ended_in w.if-not-stream.false))
      ];
    }
