-- The first condition that holds refuses; where none holds, SETTINGS joins the output and awaits
-- its acknowledgment.
use Rattle.h2_core.proofs.Names.{◌≡◌, Option, Some, None, false, ◌++◌, ap, sym, ◌∙◌, refl}
use Rattle.h2_core.proofs.Names.{err_from_is_err_and, encoding_of, values_of, Values, changed_pairs}
use Rattle.h2_core.proofs.Names.{end_view, end_of, conditions, first_of, items_of}
use Rattle.h2_core.proofs.Names.{encoder_after_call, after_call}
use Rattle.std.specs.Prelude.{is_some}
use Rattle.h2_frame.specs.Frames.{Settings}
use Rattle.h2_spec_machine.specs.End.{values_or}
use Rattle.h2_core.proofs.CallConditions.{holds_first, others_decide, refused, lacks_memory}
use Rattle.h2_core.proofs.CallConditions.{is_some_mapped}
use Rattle.h2_core.proofs.StepEnds.{with_waiting}
use Rattle.h2_core.proofs.StepFrames.{one-item}
use Rattle.h2_core.proofs.endpoint.Endpoint.change_settings.Goals as goal

-- Where no own values await their acknowledgment, those in force were written last.
frame_written : (values : Values) (awaited : Option Values) → is_some awaited ≡ false
    → (values_or values awaited).max_frame ≡ values.max_frame
frame_written values None none = refl
frame_written values (Some other) none = cc

pub returns-in_err-check_up-clause-err : goal.returns-in_err-check_up-clause-err
unfolding conditions
returns-in_err-check_up-clause-err c =
    let p = err_from_is_err_and c.from_residual.result c.from_residual.ensures.1 in
    let closed = c.in_err-check_up.ensures.err in
    rw (p.1, p.2, closed.0) (refused _ _ _ (holds_first _ _ _ closed.1))

pub returns-in_err-check_room-clause-err : goal.returns-in_err-check_room-clause-err
unfolding conditions
returns-in_err-check_room-clause-err c =
    let p = err_from_is_err_and c.from_residual-in_err-check_room.result
    c.from_residual-in_err-check_room.ensures.1 in
    let full = c.in_err-check_room.ensures.err in
    let up : is_some c.args.self.now.failed ≡ false = rw c.in_ok-check_up.ensures.ok refl in
    rw (p.1, p.2, full.0) (refused _ _ _ (others_decide _ _ _ _ up (holds_first _ _ _ full.1)))

pub returns-then-is_some-clause-err : goal.returns-then-is_some-clause-err
unfolding conditions
returns-then-is_some-clause-err c =
    let up : is_some c.args.self.now.failed ≡ false = rw c.in_ok-check_up.ensures.ok refl in
    refused _ _ _ (others_decide _ _ _ _ up (others_decide _ _ _ _ c.in_ok-check_room.ensures.ok
    (holds_first _ _ _ (is_some_mapped values_of _ ∙ sym c.if-is_some.ensures))))

pub returns-then-is_err-clause-err : goal.returns-then-is_err-clause-err
unfolding conditions first_of
returns-then-is_err-clause-err c =
    let none_waits = is_some_mapped values_of c.args.self.now.awaited ∙ sym c.if-is_some.ensures in
    lacks_memory _ _ _
    (rw (c.in_ok-check_up.ensures.ok, c.in_ok-check_room.ensures.ok, none_waits))
    (ap (with_waiting (end_of c.args.self.now)) c.reserve.ensures.waiting)

pub returns-clause-ok : goal.returns-clause-ok
unfolding conditions first_of after_call items_of encoder_after_call
returns-clause-ok c =
    let none_waits = is_some_mapped values_of c.args.self.now.awaited ∙ sym c.if-is_some.ensures in
    let e = end_of c.args.self.now in
    let values = values_of c.args.config in
    let written : c.add_changed_settings.new.output.waiting
    ≡ e.output.waiting
    ++ encoding_of (Settings false (changed_pairs e.role (end_view e).max_frame_written values)) =
    rw (
      c.add_changed_settings.ensures.waiting,
      c.reserve.ensures.waiting,
      frame_written e.own.in_force e.own.awaited none_waits,
    ) refl in
    record {
      free = rw (c.in_ok-check_up.ensures.ok, c.in_ok-check_room.ensures.ok, none_waits);
      after = ap (with_waiting (record e { own = record e.own { awaited = Some values } }))
          (written ∙ ap (λ octets. e.output.waiting ++ octets) (sym (one-item _ _)));
    }
