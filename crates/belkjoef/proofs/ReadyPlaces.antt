-- Where the output is ready, no memory is taken as octets of it are.
use Rattle.std.proofs.Common.{◌≡◌, ◌∙◌, sym, subst, refl, ℤ}
use Rattle.std.specs.Prelude.{ℕ, Option, Some, Result, Ok, Err, OnOk, IsOk}
use Rattle.std.proofs.lemmas.Bool.{false≢true}
use Rattle.h2_spec_log.specs.declared.refusal.Refusal.{Refusal}
use Rattle.h2_spec_log.specs.declared.refusal.Refusal.TheVariants as refusals
use Rattle.belkjoef.specs.declared.held.Held.{Held}
use Rattle.belkjoef.specs.Helds.{held_end}
use Rattle.belkjoef.specs.Numbers.{ok, refusal_number, answer_number}
use Rattle.belkjoef.specs.Output.{HoldsReady, IsReadyOutput, FineIfReady, OkIfReady}

-- No refusal has the number 0.
pub no_refusal : (refusal : Refusal) → refusal_number refusal ≡ ok → ⊥
no_refusal refusals.Closed is = cc
no_refusal refusals.NoSuchStream is = cc
no_refusal refusals.Ended is = cc
no_refusal refusals.TooManyStreams is = cc
no_refusal refusals.StreamsExhausted is = cc
no_refusal refusals.GoingAway is = cc
no_refusal refusals.OutputFull is = cc
no_refusal refusals.PingWaits is = cc
no_refusal refusals.TooManyResets is = cc
no_refusal refusals.ListTooLarge is = cc
no_refusal refusals.NotOwed is = cc
no_refusal refusals.Memory is = cc
no_refusal refusals.SettingsWait is = cc
no_refusal refusals.WindowTooLarge is = cc

-- What was made ready is in the place.
pub holds_ready : {A : Type 0} (outcome : Result A Refusal) {told : ℤ} {held : Held}
    {new : Option Held} → told ≡ answer_number outcome → told ≡ ok → new ≡ Some held
    → OnOk outcome (IsReadyOutput (held_end held)) → HoldsReady new
holds_ready (Ok value) same is at so = subst (λ (o : Option Held). HoldsReady o) (sym at) so
holds_ready (Err refusal) same is at so = absurd (no_refusal refusal (sym same ∙ is))

-- The number of what is no refusal.
pub fine_number : (outcome : Result ℕ Refusal) → IsOk outcome → answer_number outcome ≡ ok
fine_number (Ok count) is = refl
fine_number (Err refusal) is = absurd (false≢true is)

pub fine_if_ready : (outcome : Result ℕ Refusal) {told : ℤ} {held : Held} {old : Option Held}
    → told ≡ answer_number outcome → old ≡ Some held → OkIfReady (held_end held) outcome
    → FineIfReady old told
fine_if_ready outcome {told = told} same at so =
    subst (λ (o : Option Held). FineIfReady o told) (sym at)
    (λ values log represents none. same ∙ fine_number outcome (so values log represents none))
