-- Pair by pair, by the lemmas on SETTINGS.
use Rattle.h2_core.proofs.Names.{◌≡◌, ℕ, ◌==◌, ◌&&◌, true, false, Some, None, refl, sym, ◌∙◌}
use Rattle.h2_core.proofs.Names.{value_fault, peer_of, end_view, end_of}
use Rattle.h2_core.proofs.OwnSettings.{value_faults, window_faults, later_fault, no_fault}
use Rattle.h2_core.proofs.OwnSettings.{next_value, last_value}
use Rattle.h2_core.proofs.endpoint.Endpoint.settings_after.Goals as goal

pub returns-in-Err : goal.returns-in-Err
returns-in-Err c =
    let one = c.args.self.now in
    let pair : ℕ × ℕ = (c.in-Some.id, c.in-Some.value) in
    let bad : value_fault (peer_of one.role) pair ≡ Some c.in-Err.bad.0 =
    rw (← c.peer_role.ensures) c.in-Err.ensures.err.0 in
    let fault = value_faults (end_view (end_of one)) _ _ _ _ c.in-Some.ensures.steps bad in
    rw c.fault.ensures (c.loop-id.invariant.fault ∙ fault, refl)

pub returns-then-overflows : goal.returns-then-overflows
returns-then-overflows c =
    let one = c.args.self.now in
    let view = end_view (end_of one) in
    let pair : ℕ × ℕ = (c.in-Some.id, c.in-Some.value) in
    let good : value_fault (peer_of one.role) pair ≡ None =
    rw (← c.peer_role.ensures) c.in_default.ensures.ok.0 in
    let above : (c.in-Some.id == 4 && view.overflows c.in-Some.value) ≡ true =
    rw (← c.overflows.ensures.overflows, c.if-overflows.true) refl in
    let fault = window_faults view _ _ _ c.in-Some.ensures.steps good above in
    rw c.fault-then-overflows.ensures (c.loop-id.invariant.fault ∙ fault, refl)

pub loop-id-preserved : goal.loop-id-preserved
loop-id-preserved c =
    let one = c.args.self.now in
    let view = end_view (end_of one) in
    let pair : ℕ × ℕ = (c.in-Some.id, c.in-Some.value) in
    let is = c.in-Some.ensures.steps in
    let good : value_fault (peer_of one.role) pair ≡ None =
    rw (← c.peer_role.ensures) c.in_default.ensures.ok.0 in
    let below : (c.in-Some.id == 4 && view.overflows c.in-Some.value) ≡ false =
    rw (← c.overflows.ensures.overflows, c.if-overflows.false) refl in
    let next = next_value c.loop-id.settings _ _ _ is in
    record {
      fault = c.loop-id.invariant.fault ∙ later_fault view _ _ _ is good below;
      values = rw c.in_default.ensures.ok.1 (c.loop-id.invariant.values ∙ next);
      greatest = c.overflows.ensures.known;
    }

pub returns : goal.returns
returns c =
    let view = end_view (end_of c.args.self.now) in
    let none = c.in-None.ensures.steps.0 in (
      c.loop-id.invariant.fault ∙ no_fault view _ none,
      sym (c.loop-id.invariant.values ∙ last_value c.loop-id.settings _ none),
    )
