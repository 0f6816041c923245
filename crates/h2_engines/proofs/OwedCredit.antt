-- Why a release of all that is owed on a stream is refused, while the connection is up: since the
-- output is full, or memory was refused.
use Rattle.h2_engines.proofs.Names
use Names.{◌≡◌, ◌≢◌, ◌⊎◌, ℕ, Bool, true, false, [], ◌∷◌, Some, None, refl, sym, ap, ◌∙◌, inl}
use Names.{inr, arith, cases_Bool, conditions, first_of, Refusal, Release, Refused, Log}
use Names.{log_view, active, owed_inactive, MayAnswer, accepts, refuses, lacks, fails, refusal_of}
use Rattle.std.proofs.Common.{is_some}
use Rattle.std.proofs.lemmas.Bool.Decides.{nat_tests}
use Rattle.h2_spec_log.specs.CallRules.{is_full, is_no_stream, is_not_owed}
use Rattle.h2_spec_log.specs.Log.{owed}
use Rattle.h2_spec_log.specs.LogView.{stream_of_log}
use Rattle.h2_spec_log.specs.States.{when}
use Rattle.h2_spec_log.specs.View.{owed_on}
use Rattle.h2_laws_end.proofs.OverRoom.{owed_active}
use Rattle.h2_spec_log.specs.declared.refusal.Refusal.TheVariants as reasons

-- A stream on which something is owed is active.
owes_active : (log : Log) (id : ℕ) → owed log id ≢ 0 → active log id ≡ true
owes_active log id some = elim (cases_Bool (active log id)) [
  | inl alive ↦ alive
  | inr over ↦ absurd (some (owed_inactive log id over))
]

-- So of the four conditions of its release a full output alone is left,
full_by : (failed gone full other : Bool) (refusal : Refusal) → failed ≡ false → gone ≡ false
    → other ≡ false
    → first_of ((failed, reasons.Closed) ∷ (gone, reasons.NoSuchStream) ∷ (full, reasons.OutputFull)
    ∷ (other, reasons.NotOwed) ∷ []) ≡ Some refusal
    → refusal ≡ reasons.OutputFull
unfolding first_of
full_by false false true other refusal up here owes is = cc
full_by false false false false refusal up here owes is = cc
full_by false false false true refusal up here owes is = cc
full_by false true full other refusal up here owes is = cc
full_by true gone full other refusal up here owes is = cc

release_full : (log : Log) (id : ℕ) (refusal : Refusal) → log.failed ≡ None → owed log id ≢ 0
    → refusal_of (log_view log) (Release id (owed log id)) ≡ Some refusal
    → refusal ≡ reasons.OutputFull
unfolding conditions
release_full log id refusal up some is =
    let alive = owes_active log id some in
    let on : owed_on ((log_view log).stream id) ≡ owed log id =
    ap (λ (b : Bool). owed_on (when b (stream_of_log log id))) alive
    ∙ sym (owed_active log id alive) in
    let here : is_no_stream (log_view log) id ≡ false = rw alive refl in
    let all : is_not_owed (log_view log) id (owed log id) ≡ false =
    rw on (grind (arith, nat_tests, some)) in
    full_by _ _ (is_full (log_view log)) _ refusal (ap is_some up) here all is

-- and it is refused for that, or since memory was refused.
pub release_refused : (log : Log) (id : ℕ) (refusal : Refusal) → log.failed ≡ None
    → owed log id ≢ 0 → MayAnswer log (Release id (owed log id)) (Refused refusal)
    → (refusal ≡ reasons.OutputFull) ⊎ (refusal ≡ reasons.Memory)
release_refused log id refusal up some (accepts none is) = cc
release_refused log id refusal up some (refuses other holds is) =
    let same : other ≡ refusal = cc in
    inl (release_full log id refusal up some (holds ∙ ap Some same))
release_refused log id refusal up some (lacks none may is) = inr cc
release_refused log id refusal up some (fails none may is) = cc
