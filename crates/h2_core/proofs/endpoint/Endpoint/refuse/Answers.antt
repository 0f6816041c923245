-- The code's tests are the condition of a refusal and the causes for which the connection fails.
use Rattle.h2_core.proofs.Names.{◌≡◌, ◌≢◌, ◌+◌, ◌≤◌, max, ℕ, inl, inr, ap, subst, refl, sym, arith}
use Rattle.h2_core.proofs.Names.{◌∙◌, err_from_is_err_and, InternalError, EnhanceYourCalm, End}
use Rattle.h2_core.proofs.Names.{fail, stream_view, StepError, end_of, FailsBy}
use Rattle.h2_core.proofs.SoundFacts.{counted, owed_fits}
use Rattle.h2_core.proofs.CallConditions.{if_err}
use Rattle.hpack.proofs.ResultLemmas.{on_ok}
use Rattle.h2_core.proofs.StepRefuse.{refuse-closed, refuse-no-stream, refuse-internal}
use Rattle.h2_core.proofs.StepRefuse.{refuse-active, after-internal, after-limit, no-limit}
use Rattle.h2_core.proofs.StepRefuse.{after-refusal}
use Rattle.h2_core.proofs.endpoint.Endpoint.refuse.Goals as goal

pub returns-in_err-check_up : goal.returns-in_err-check_up
returns-in_err-check_up c =
    let e = end_of c.args.self.now in
    let p = err_from_is_err_and c.from_residual.result c.from_residual.ensures.1 in
    rw (p.1, p.2, c.in_err-check_up.ensures.err.0)
    (refuse-closed e c.args.id c.args.code c.in_err-check_up.ensures.err.1, refl)

pub returns-then-code-number : goal.returns-then-code-number
returns-then-code-number c =
    let e = end_of c.args.self.now in
    let same : c.args.code ≡ 2 = c.if-code-number.true ∙ c.number.ensures in
    inl (record {
      free = refuse-internal e c.args.id c.args.code c.in_ok-check_up.ensures.ok same;
      after = c.fail_by.ensures.1 ∙ sym (after-internal e c.args.id c.args.code same);
    })

pub returns-in_default : goal.returns-in_default
returns-in_default c =
    let e = end_of c.args.self.now in
    let other : c.args.code ≢ 2 = omega (arith, c.number.ensures, c.if-code-number.false) in (
      refuse-no-stream e c.args.id c.args.code c.in_ok-check_up.ensures.ok other
          c.in_default.ensures,
      refl,
    )

pub returns-then-is_over_limits : goal.returns-then-is_over_limits
returns-then-is_over_limits c =
    let e = end_of c.args.self.now in
    let other : c.args.code ≢ 2 = omega (arith, c.number.ensures, c.if-code-number.false) in
    let last : max e.streams.last_processed 0 ≡ e.streams.last_processed = omega arith in
    let fails =
    subst (λ (stop : StepError).
    FailsBy e stop c.fail_by-then-is_over_limits.result
    (end_of c.fail_by-then-is_over_limits.new.self)) c.fault.ensures
    c.fail_by-then-is_over_limits.ensures in
    inl (record {
      free =
          refuse-active e c.args.id c.args.code _ c.in_ok-check_up.ensures.ok
          c.in-Some.ensures;
      after =
          fails.1 ∙ ap (λ (last : ℕ). fail EnhanceYourCalm last e) last
          ∙ sym (after-limit e c.args.id c.args.code other (sym c.if-is_over_limits.ensures));
    })

pub reset_stream-requires-clause-counted : goal.reset_stream-requires-clause-counted
reset_stream-requires-clause-counted c =
    let sound = c.requires.sound c.in_ok-check_up.ensures.ok in
    λ _.
    counted (end_of c.args.self.now) c.args.id (stream_view c.in-Some.stream) sound
    (sym c.in-Some.ensures)

pub reset_stream-requires-clause-window : goal.reset_stream-requires-clause-window
reset_stream-requires-clause-window c =
    let sound = c.requires.sound c.in_ok-check_up.ensures.ok in
    let e = end_of c.args.self.now in
    let stream = stream_view c.in-Some.stream in
    let fits : e.windows.recv + (e.windows.unreturned + stream.owed) ≤ 2147483647 =
    owed_fits e c.args.id stream sound (sym c.in-Some.ensures) in
    omega (arith, fits)

pub returns-then-is_err : goal.returns-then-is_err
returns-then-is_err c =
    let e = end_of c.args.self.now in
    let other : c.args.code ≢ 2 = omega (arith, c.number.ensures, c.if-code-number.false) in
    let same =
    if_err c.reset_stream.result (sym c.if-is_err.ensures.value) c.reset_stream.ensures.err in
    inr (
      refuse-active e c.args.id c.args.code _ c.in_ok-check_up.ensures.ok
          c.in-Some.ensures,
      no-limit e c.args.code other (sym c.if-is_over_limits.ensures),
      c.fail_by-then-is_err.ensures.1
          ∙ ap (λ (end : End). fail InternalError end.streams.last_processed end) same,
    )

pub returns-else-is_err : goal.returns-else-is_err
returns-else-is_err c =
    let e = end_of c.args.self.now in
    let other : c.args.code ≢ 2 = omega (arith, c.number.ensures, c.if-code-number.false) in
    inl (record {
      free =
          refuse-active e c.args.id c.args.code _ c.in_ok-check_up.ensures.ok
          c.in-Some.ensures;
      after =
          on_ok c.reset_stream.result (sym c.if-is_err.ensures.value) c.reset_stream.ensures.ok
          ∙ sym (after-refusal e c.args.id c.args.code other (sym c.if-is_over_limits.ensures));
    })
