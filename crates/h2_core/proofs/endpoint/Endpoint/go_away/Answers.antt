-- The code's tests are the conditions of GOAWAY in their order; the frame and its stream are kept.
use Rattle.h2_core.proofs.Names.{ℕ, ◌<◌, ◌^◌, List, [], ◌∷◌, ◌++◌, Some, refl, sym, ap, arith, ◌∙◌}
use Rattle.h2_core.proofs.Names.{err_from_is_err_and, GoAway, alone, encoding_of_items, SendGoAway}
use Rattle.h2_core.proofs.Names.{End, end_view, end_of, conditions, first_of, after_call, items_of}
use Rattle.h2_core.proofs.Names.{encoder_after_call}
use Rattle.std.proofs.Common.{is_some}
use Rattle.h2_core.proofs.SoundFacts.{last_small}
use Rattle.h2_core.proofs.CallConditions.{refused, lacks_memory}
use Rattle.hpack.proofs.ResultLemmas.{on_ok}
use Rattle.h2_core.proofs.StepEnds.{with_waiting, item-added}
use Rattle.h2_output.proofs.EncodingLemmas.{goaway-written, length-goaway}
use Rattle.h2_core.proofs.endpoint.Endpoint.go_away.Goals as goal

pub returns-in_err-check_up-clause-err : goal.returns-in_err-check_up-clause-err
unfolding conditions first_of
returns-in_err-check_up-clause-err c =
    let p = err_from_is_err_and c.from_residual.result c.from_residual.ensures.1 in
    let closed = c.in_err-check_up.ensures.err in
    rw (p.1, p.2, closed.0) (refused _ _ _ (rw closed.1))

pub returns-then-is_some-clause-err : goal.returns-then-is_some-clause-err
unfolding conditions first_of
returns-then-is_some-clause-err c =
    refused _ _ _ (rw (c.in_ok-check_up.ensures.ok, ← c.if-is_some.ensures))

pub returns-in_err-check_room-clause-err : goal.returns-in_err-check_room-clause-err
unfolding conditions first_of
returns-in_err-check_room-clause-err c =
    let r = c.from_residual-in_err-check_room in
    let p = err_from_is_err_and r.result r.ensures.1 in
    let full = c.in_err-check_room.ensures.err in
    rw (p.1, p.2, full.0)
    (refused _ _ _ (rw (c.in_ok-check_up.ensures.ok, ← c.if-is_some.ensures, full.1)))

pub returns-then-is_err-clause-err : goal.returns-then-is_err-clause-err
unfolding conditions first_of
returns-then-is_err-clause-err c =
    lacks_memory _ _ _
    (rw (c.in_ok-check_up.ensures.ok, ← c.if-is_some.ensures, c.in_ok-check_room.ensures.ok))
    (ap (with_waiting (end_of c.args.self.now)) c.reserve.ensures.waiting)

pub add_frame-requires-clause-writable : goal.add_frame-requires-clause-writable
add_frame-requires-clause-writable c =
    let sound = c.requires.sound c.in_ok-check_up.ensures.ok in
    let last = c.args.self.now.last_processed in
    let small : last < 2 ^ 31 = last_small (end_of c.args.self.now) sound in
    goaway-written last c.number.result small

pub add_frame-requires-clause-short : goal.add_frame-requires-clause-short
add_frame-requires-clause-short c =
    omega (arith, length-goaway c.args.self.now.last_processed c.number.result)

pub add_frame-requires-clause-room : goal.add_frame-requires-clause-room
add_frame-requires-clause-room c =
    omega (
      arith,
      length-goaway c.args.self.now.last_processed c.number.result,
      on_ok c.reserve.result (sym c.if-is_err.ensures.value) c.reserve.ensures.ok,
    )

-- an end that has sent GOAWAY
abbrev with_goaway : End → End
with_goaway e = record e { goaway = record e.goaway { sent = Some e.streams.last_processed } }

pub returns-clause-ok : goal.returns-clause-ok
unfolding conditions first_of after_call items_of encoder_after_call
returns-clause-ok c =
    let e = end_of c.args.self.now in
    let last = e.streams.last_processed in
    let room = c.in_ok-check_room.ensures.ok in
    record {
      free = rw (c.in_ok-check_up.ensures.ok, ← c.if-is_some.ensures, room);
      after =
          ap (λ (octets : List ℕ). with_goaway (with_waiting e octets))
          (item-added (end_view e).max_payload (GoAway last c.number.result []) e.output.waiting
          c.reserve.new.self.waiting c.add_frame.new.self.waiting c.reserve.ensures.waiting
          c.add_frame.ensures.waiting
          ∙ ap (λ (code : ℕ). e.output.waiting
          ++ encoding_of_items (end_view e).max_payload (alone (GoAway last code []) ∷ []))
          c.number.ensures);
    }
