-- The first condition that holds refuses; where none holds, the octets that both windows let
-- through join the output, and the windows are without them.
use Rattle.h2_core.proofs.Names.{◌≡◌, ◌+◌, ◌==◌, ◌&&◌, length, take, ap, sym, ◌∙◌, arith, and_parts}
use Rattle.h2_core.proofs.Names.{err_from_is_err_and, data_frames, end_view, stream_view, end_of}
use Rattle.h2_core.proofs.Names.{conditions}
use Rattle.std.proofs.lemmas.Bool.{eqb-true}
use Rattle.h2_core.proofs.CallConditions.{refused, lacks_memory}
use Rattle.h2_core.proofs.StepEnds.{with_waiting}
use Rattle.h2_core.proofs.CallSend.{data_free, data_unsent, after_sent, data_written}
use Rattle.h2_core.proofs.SoundFacts.{send_near}
use Rattle.h2_core.proofs.endpoint.Endpoint.send_shared_data.Goals.{then-end, else-end}
use Rattle.h2_core.proofs.endpoint.Endpoint.send_shared_data.Goals as goal

pub returns-in_err-stream-clause-err : goal.returns-in_err-stream-clause-err
unfolding conditions
returns-in_err-stream-clause-err c =
    let p = err_from_is_err_and c.from_residual.result c.from_residual.ensures.1 in
    rw (p.1, p.2) (refused _ _ _ c.in_err-stream.ensures.err)

pub sendable_octets-count-requires : goal.sendable_octets-count-requires
sendable_octets-count-requires c =
    let sound = c.requires.sound c.in_ok-stream.ensures.ok.0 in
    send_near (end_of c.args.self.now) c.args.id _ sound c.in_ok-stream.ensures.ok.1

pub returns-then-sends_nothing-clause-ok : goal.returns-then-sends_nothing-clause-ok
returns-then-sends_nothing-clause-ok c =
    let ok = c.in_ok-stream.ensures.ok in
    let e = end_of c.args.self.now in
    let stream = stream_view c.in_ok-stream.stream in
    let counted = rw c.len-length.ensures.value at c.sendable_octets-count.ensures in
    let test = rw c.as_slice.ensures at c.if-sends_nothing.ensures in
    let none = eqb-true _ 0 (and_parts _ _ (sym test)).0 in (
      rw ok.1 (sym none ∙ counted),
      record {
        free = data_free e c.args.id stream c.args.octets c.args.end ok.0 ok.1 ok.2 ok.3;
        after = sym (data_unsent e c.args.id stream c.args.octets c.args.end
            c.sendable_octets-count.result ok.1 counted
            (sym test));
      },
    )

pub returns-then-is_err-clause-err : goal.returns-then-is_err-clause-err
returns-then-is_err-clause-err c =
    let ok = c.in_ok-stream.ensures.ok in
    let e = end_of c.args.self.now in
    let stream = stream_view c.in_ok-stream.stream in
    lacks_memory e _ _
    (data_free e c.args.id stream c.args.octets c.args.end ok.0 ok.1 ok.2 ok.3)
    (ap (with_waiting e) c.reserve.ensures.waiting)

pub returns-clause-ok : goal.returns-clause-ok
returns-clause-ok c =
    let ok = c.in_ok-stream.ensures.ok in
    let e = end_of c.args.self.now in
    let stream = stream_view c.in_ok-stream.stream in
    let count = c.sendable_octets-count.result in
    let octets = c.args.octets in
    let counted = rw c.len-length.ensures.value at c.sendable_octets-count.ensures in
    let test = rw c.as_slice.ensures at c.if-sends_nothing.ensures in
    let ends = c.if-end.ends in
    let sent = rw c.truncate.ensures at c.write_shared_data.ensures in
    let last : ends ≡ (c.args.end && count == length octets) =
    elim c.if-end.branch [
      | then-end w ↦ rw (← c.len-length.ensures.value, w.if-end.true) w.ends-is
      | else-end w ↦ rw w.if-end.false (w.ends-is ∙ w.if-end.false)
    ] in (
      rw ok.1 counted,
      record {
        free = data_free e c.args.id stream octets c.args.end ok.0 ok.1 ok.2 ok.3;
        after = sent
            ∙ ap (λ waiting. after_sent (with_waiting e waiting) c.args.id stream
            (data_frames (length (take count octets) + 1) (end_view e).max_payload c.args.id
            (take count octets) ends)
            (length (take count octets)) ends) c.reserve.ensures.waiting
            ∙ data_written e c.args.id stream octets c.args.end count ends ok.1
            counted (sym test) (omega arith) last;
      },
    )
