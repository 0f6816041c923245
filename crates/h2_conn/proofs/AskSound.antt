-- A call leaves the values of an end sound.
use Rattle.h2_conn.proofs.Names.{◌≡◌, ℕ, Bool, true, false, if◌then◌else◌, None, Result, Ok, Err}
use Rattle.h2_conn.proofs.Names.{inl, inr, IfOk, refl, sym, ap, subst, ◌∙◌, Refusal, Memory, Act}
use Rattle.h2_conn.proofs.Names.{IsTypedAct, Refuse, PutOut, refusal_of, returns_before_put_out}
use Rattle.h2_conn.proofs.Names.{End, end_view, holds, is_whole, counted, is_counted, fits}
use Rattle.h2_conn.proofs.Names.{are_in_range, CallRefused, CallAccepted, CallRefuses, Consumes}
use Rattle.h2_conn.proofs.Names.{IsSoundEnd, never_refused, after_call, before_put_out_at}
use Rattle.h2_conn.proofs.Names.{return_credit, rules}
use Rattle.std.proofs.Common.{IfErr, OnOk}
use Rattle.h2_laws_machine.proofs.BoundsOfSteps.{call_bounded}
use Rattle.h2_laws_machine.proofs.ConservedBySteps.{call_holds}
use Rattle.h2_laws_machine.proofs.CountedBySteps.{call_counts}
use Rattle.h2_laws_machine.proofs.RangesOfSteps.{call_fits}
use Rattle.h2_conn.proofs.AskCalls.{puts_out, up_if_free}

-- A call that is accepted leaves an end sound.
pub accepted_sound : (e : End) (act : Act) → refusal_of (end_view e) act ≡ None → IsTypedAct act
    → IsSoundEnd e → IsSoundEnd (after_call e act)
accepted_sound e act free typed sound =
    record {
      bounded = call_bounded e act free typed sound.bounded;
      window = is_whole (after_call e act) (call_holds e act free (holds e sound.window));
      ranges = are_in_range (after_call e act) (call_fits e act free typed (fits e sound.ranges));
      counts = is_counted (after_call e act) (call_counts e act free (counted e sound.counts));
    }

-- An end was up before a call after which it is, where the call doesn't put output out.
pub was_up : {A : Type 0} (result : Result A Refusal) (e new : End) (act : Act)
    → puts_out act ≡ false → OnOk result (CallAccepted e act new)
    → IfErr result (λ refusal. CallRefused e act refusal new) → new.failed ≡ None
    → e.failed ≡ None
was_up (Ok value) e new act other ok err up = up_if_free e act other ok.free
was_up (Err refusal) e new act other ok err up = search rules

-- The same of refusing a stream.
pub was_up_refusing : (result : Result Unit Refusal) (e new : End) (id code : ℕ)
    → CallRefuses e id code result new → new.failed ≡ None → e.failed ≡ None
was_up_refusing (Ok done) e new id code (inl accepted) up =
    up_if_free e (Refuse id code) refl accepted.free
was_up_refusing (Ok done) e new id code (inr (free, calm, is)) up = search rules
was_up_refusing (Err refusal) e new id code (why, is) up = search rules

-- A call leaves an end sound, whatever it returns.
pub sound_by : {A : Type 0} (result : Result A Refusal) (e new : End) (act : Act)
    → IsTypedAct act → IsSoundEnd e → OnOk result (CallAccepted e act new)
    → IfErr result (λ refusal. CallRefused e act refusal new) → IsSoundEnd new
sound_by (Ok value) e new act typed sound ok err =
    subst IsSoundEnd (sym ok.after) (accepted_sound e act ok.free typed sound)
sound_by (Err refusal) e new act typed sound ok err = subst IsSoundEnd (sym err.same) sound

-- What holds of an end that is up, and of its cutter, holds after a call, as long as it is up.
pub call_kept : {A : Type 0} (result : Result A Refusal) (e new : End) (act : Act)
    (cuts : Type 0) → puts_out act ≡ false → IsTypedAct act → (e.failed ≡ None → IsSoundEnd e)
    → (e.failed ≡ None → cuts) → OnOk result (CallAccepted e act new)
    → IfErr result (λ refusal. CallRefused e act refusal new)
    → (new.failed ≡ None → IsSoundEnd new) × (new.failed ≡ None → cuts)
call_kept result e new act cuts other typed sound whole ok err =
    let was = was_up result e new act other ok err in
    (λ up. sound_by result e new act typed (sound (was up)) ok err, λ up. whole (was up))

-- What holds beside something else of a value.
pub beside_value : {A : Type 0} (X : A → Type 0) (P : Type 0) (result : Result A Refusal)
    → IfOk result (λ value. X value × P) → OnOk result P
beside_value X P (Ok value) ok = ok.1
beside_value X P (Err refusal) ok = ok

-- Refusing a stream leaves an end sound that hasn't failed.
pub refusing_sound : (result : Result Unit Refusal) (e new : End) (id code : ℕ)
    → IsTypedAct (Refuse id code) → IsSoundEnd e → CallRefuses e id code result new
    → new.failed ≡ None → IsSoundEnd new
refusing_sound (Ok done) e new id code typed sound (inl accepted) up =
    subst IsSoundEnd (sym accepted.after) (accepted_sound e
    (Refuse id code) accepted.free typed sound)
refusing_sound (Ok done) e new id code typed sound (inr (free, calm, is)) up = search rules
refusing_sound (Err refusal) e new id code typed sound (why, is) up = search rules

-- Returning credit leaves it whether an end has failed, by the test.
ready_same_by : (e : End) (b : Bool) → (if b then return_credit e else e).failed ≡ e.failed
ready_same_by e true = refl
ready_same_by e false = refl

-- Returning credit leaves it whether an end has failed.
ready_same : (e : End) → (before_put_out_at e).failed ≡ e.failed
unfolding before_put_out_at
ready_same e = ready_same_by e (returns_before_put_out (end_view e))

-- Putting output out leaves it whether an end has failed.
pub put_out_failed : (e : End) (count : ℕ) → (after_call e (PutOut count)).failed ≡ e.failed
unfolding after_call
put_out_failed e count = ready_same e

-- Putting output out leaves it whether an end has failed, whatever it returns.
pub still_failed : (result : Result ℕ Refusal) (e new : End) (count : ℕ)
    → IfOk result (λ given. Consumes e count given new)
    → IfErr result (λ refusal. (refusal ≡ Memory) × (new ≡ e)) → new.failed ≡ e.failed
still_failed (Ok given) e new count ok err =
    ap (λ (x : End). x.failed) ok.machine ∙ put_out_failed e count
still_failed (Err refusal) e new count ok (memory, same) = ap (λ (x : End). x.failed) same

-- Putting output out leaves an end sound that hasn't failed.
pub put_out_sound : (result : Result ℕ Refusal) (e new : End) (count : ℕ)
    → IsTypedAct (PutOut count) → IsSoundEnd e
    → IfOk result (λ given. Consumes e count given new)
    → IfErr result (λ refusal. (refusal ≡ Memory) × (new ≡ e)) → IsSoundEnd new
put_out_sound (Ok given) e new count typed sound ok err =
    subst IsSoundEnd (sym ok.machine)
    (accepted_sound e (PutOut count) (never_refused e count) typed sound)
put_out_sound (Err refusal) e new count typed sound ok (memory, same) = search rules

-- What holds of an end that is up, and of its cutter, holds after these two, as long as it is up.
pub refusing_kept : (result : Result Unit Refusal) (e new : End) (id code : ℕ) (cuts : Type 0)
    → IsTypedAct (Refuse id code) → (e.failed ≡ None → IsSoundEnd e) → (e.failed ≡ None → cuts)
    → CallRefuses e id code result new
    → (new.failed ≡ None → IsSoundEnd new) × (new.failed ≡ None → cuts)
refusing_kept result e new id code cuts typed sound whole h =
    let was = was_up_refusing result e new id code h in
    (λ up. refusing_sound result e new id code typed (sound (was up)) h up, λ up. whole (was up))

pub put_out_kept : (result : Result ℕ Refusal) (e new : End) (count : ℕ) (cuts : Type 0)
    → IsTypedAct (PutOut count) → (e.failed ≡ None → IsSoundEnd e) → (e.failed ≡ None → cuts)
    → IfOk result (λ given. Consumes e count given new)
    → IfErr result (λ refusal. (refusal ≡ Memory) × (new ≡ e))
    → (new.failed ≡ None → IsSoundEnd new) × (new.failed ≡ None → cuts)
put_out_kept result e new count cuts typed sound whole ok err =
    let still = sym (still_failed result e new count ok err) in (
      λ up. put_out_sound result e new count typed (sound (still ∙ up)) ok err,
      λ up. whole (still ∙ up),
    )
