-- Pair by pair.
use Rattle.h2_conn.proofs.Names.{◌≡◌, ◌∙◌, ℕ, true, false, List, ◌∷◌, sym, refl, ap, Code, Some}
use Rattle.h2_conn.proofs.Names.{None, Bool, View, Role, Result, Ok, Err}
use Rattle.std.proofs.Common.{◌==◌, ◌&&◌}
use Rattle.std.proofs.lemmas.Bool.{ne_eqb}
use Rattle.std.specs.Prelude.{IfErr, OnOk}
use Rattle.std.specs.Result.{is_err}
use Rattle.h2_flow.specs.declared.fault.BadSetting.{BadSetting}
use Rattle.h2_spec_log.specs.Settings.{peer_of, value_fault}
use Rattle.h2_conn.specs.declared.why.Why.TheVariants.{ShiftTooLarge}
use Rattle.h2_conn.specs.Why.{first_at_fault, rule_of_setting}
use Rattle.h2_conn.proofs.why_of_frame.first_at_fault.Goals as goal

module _ (view : View) (left pairs : List (ℕ × ℕ)) (id value : ℕ) where
  -- The value of the first pair is at fault.
  value_is : (bad : Code) → left ≡ (id, value) ∷ pairs
      → value_fault (peer_of view.role) (id, value) ≡ Some bad
      → first_at_fault view left ≡ rule_of_setting id
  unfolding first_at_fault
  value_is bad is fault = rw (is, fault) refl

  -- It is an initial window that brings a stream's above the greatest.
  window_is : left ≡ (id, value) ∷ pairs
      → value_fault (peer_of view.role) (id, value) ≡ None
      → (id == 4 && view.overflows value) ≡ true → first_at_fault view left ≡ ShiftTooLarge
  unfolding first_at_fault
  window_is is good above = rw (is, good, above) refl

  -- It breaks no rule.
  none_is : left ≡ (id, value) ∷ pairs
      → value_fault (peer_of view.role) (id, value) ≡ None
      → (id == 4 && view.overflows value) ≡ false
      → first_at_fault view left ≡ first_at_fault view pairs
  unfolding first_at_fault
  none_is is good below = rw (is, good, below) refl

module _ {A : Type 0} (Q : Type 0) (pair : ℕ × ℕ) where
  -- A value that was refused is at fault.
  bad_value : (from peer : Role) (result : Result A BadSetting) (test : Bool)
      → test ≡ is_err result → test ≡ true
      → IfErr result (λ bad. (value_fault from pair ≡ Some bad.0) × Q) → from ≡ peer
      → (code : Code) × (value_fault peer pair ≡ Some code)
  bad_value from peer (Ok value) test tests is says same = cc
  bad_value from peer (Err bad) test tests is says same = (bad.0, rw (← same) says.0)

  -- One that was set is not.
  good_value : (from peer : Role) (result : Result A BadSetting) (test : Bool)
      → test ≡ is_err result → test ≡ false
      → OnOk result ((value_fault from pair ≡ None) × Q) → from ≡ peer
      → value_fault peer pair ≡ None
  good_value from peer (Ok value) test tests is says same = rw (← same) says.0
  good_value from peer (Err bad) test tests is says same = cc

pub returns-then-is_err : goal.returns-then-is_err
returns-then-is_err c = λ view sees.
    let pair : ℕ × ℕ = (c.in-Some.id, c.in-Some.value) in
    let from = c.peer_role-from.ensures ∙ ap peer_of sees.role in
    let fault = bad_value _ pair _ (peer_of view.role) c.apply.result _ c.is_err.ensures.value
    c.if-is_err.true c.apply.ensures.err from in
    c.rule_of_setting.ensures
    ∙ sym (c.loop-id.invariant view sees
    ∙ value_is view _ _ c.in-Some.id c.in-Some.value fault.0 c.in-Some.ensures.steps fault.1)

pub returns-then-shifts_too_far : goal.returns-then-shifts_too_far
returns-then-shifts_too_far c = λ view sees.
    let pair : ℕ × ℕ = (c.in-Some.id, c.in-Some.value) in
    let from = c.peer_role-from.ensures ∙ ap peer_of sees.role in
    let good = good_value _ pair _ (peer_of view.role) c.apply.result _ c.is_err.ensures.value
    c.if-is_err.false c.apply.ensures.ok from in
    let above : (c.in-Some.id == 4 && view.overflows c.in-Some.value) ≡ true =
    rw (
      c.if-id-eq4.true,
      ← (sees.overflows c.in-Some.value),
      ← (c.greatest_send_window-greatest.ensures c.in-Some.value),
      ← c.shifts_too_far.ensures,
      c.if-shifts_too_far.true,
    ) refl in
    sym (c.loop-id.invariant view sees
    ∙ window_is view _ _ c.in-Some.id c.in-Some.value c.in-Some.ensures.steps good above)

pub loop-id-preserved : goal.loop-id-preserved
loop-id-preserved c = λ view sees.
    let pair : ℕ × ℕ = (c.in-Some.id, c.in-Some.value) in
    let from = c.peer_role-from.ensures ∙ ap peer_of sees.role in
    let good = good_value _ pair _ (peer_of view.role) c.apply.result _ c.is_err.ensures.value
    c.if-is_err.false c.apply.ensures.ok from in
    let below : (c.in-Some.id == 4 && view.overflows c.in-Some.value) ≡ false =
    elim c.else-id-eq4.branch [
      | goal.else-id-eq4-via-then-id-eq4+else-shifts_too_far w ↦
          rw (
            w.if-id-eq4.true,
            ← (sees.overflows c.in-Some.value),
            ← (c.greatest_send_window-greatest.ensures c.in-Some.value),
            ← w.shifts_too_far.ensures,
            w.if-shifts_too_far.false,
          ) refl
      | goal.else-id-eq4-via-else-id-eq4 w ↦
          rw (ne_eqb c.in-Some.id 4 w.if-id-eq4.false) refl
    ] in
    c.loop-id.invariant view sees
    ∙ none_is view _ _ c.in-Some.id c.in-Some.value c.in-Some.ensures.steps good below

pub returns : goal.returns
unfolding first_at_fault
returns c = λ view sees. sym (c.loop-id.invariant view sees ∙ rw c.in-None.ensures.steps.0 refl)
