-- One call of the connection at either end keeps what holds of two joined ends.
use Rattle.h2_joined.proofs.Names.{inl, inr, ◌∷◌, sym, ◌∙◌, Act, Log, ◌≡◌, ◌≢◌, ℕ, List, ◌++◌, refl}
use Rattle.h2_joined.proofs.Names.{subst, Done, View, Side, Made, false, calls, ap, append-nil}
use Rattle.h2_joined.proofs.Names.{IsTypedAct, OutOfMemory, grows_call, Said, both_ways}
use Rattle.h2_joined.proofs.Names.{first_or_later, call_gives_nothing, IsUndisturbedStep, Values}
use Rattle.h2_joined.proofs.Names.{Answer, Refuse, PutOut, EndLog, JointEnd, ResetStream, Code}
use Rattle.h2_joined.proofs.Names.{tokens_heard, half_of, with_happened, log_view, MayAnswer, Fail}
use Rattle.h2_joined.proofs.Names.{with_call, WasAsked, with_given, WasResetAt, AreUndisturbed}
use Rattle.h2_laws_pair.specs.Undisturbed.{LeavesUp}
use Rattle.h2_spec_log.specs.CallRules.{may_fail_for_memory}
use Rattle.h2_spec_log.specs.LogCalls.{accepts, refuses, lacks, fails}
use Rattle.h2_laws_log.proofs.PartsStay.{call_calls}
use Rattle.h2_laws_pair.proofs.StepUnprocessed.{call_reports_all}
use Rattle.h2_joined.proofs.JointHolds.{EndHolds, AllHadMemory, StaysAt, reported_by, AcceptAt}
use Rattle.h2_laws_log.proofs.CallConditions.{answer_in_memory as in_memory}
use Rattle.h2_joined.proofs.HoldsSides.{goes_on_at}
use Rattle.h2_laws_pair.specs.Steps.{no_step, then_step}

-- the end after a call of its connection, where this is accepted
abbrev pub end_called : EndLog → Act → Answer → List (ℕ × Said) → EndLog
end_called end act answer accepted = record end {
  log = with_call end.log act answer;
  accepted = accepted;
}

-- The call does not refuse a stream; where it ends the connection, an act has; and where it resets
-- a stream, that is an act.
pub record IsOfAct (made : List Made) (side : Side) (act : Act) (answer : Answer) : Type 0 where
  pub no_refusal : (id code : ℕ) → act ≢ Refuse id code
  pub no_end : (code : Code) → act ≡ Fail code → AllHadMemory made → ⊥
  pub reset : (id code : ℕ) → act ≡ ResetStream id code → answer ≡ Done
      → WasResetAt made side id code

-- The call neither resets nor refuses a stream, nor does it put output out or end the connection.
abbrev pub IsOrdinary : Act → Type 0
IsOrdinary (ResetStream id code) = ⊥
IsOrdinary (Refuse id code) = ⊥
IsOrdinary (Fail code) = ⊥
IsOrdinary (PutOut count) = ⊥
IsOrdinary act = Unit {0}

pub ordinary_of_act : (made : List Made) (side : Side) (act : Act) (answer : Answer)
    → IsOrdinary act → IsOfAct made side act answer
ordinary_of_act made side act answer ordinary =
    record {
      no_refusal = λ id code is. absurd (subst IsOrdinary is ordinary);
      no_end = λ code is had. absurd (subst IsOrdinary is ordinary);
      reset = λ id code is done. absurd (subst IsOrdinary is ordinary);
    }

pub ordinary_stays_in : (act : Act) → IsOrdinary act → (count : ℕ) → act ≢ PutOut count
ordinary_stays_in act ordinary count is = absurd (subst IsOrdinary is ordinary)

never_fails : (view : View) (act : Act) → ((id code : ℕ) → act ≢ Refuse id code)
    → may_fail_for_memory view act ≡ false
unfolding may_fail_for_memory
never_fails view (Refuse id code) other = absurd (other id code refl)
never_fails view act other = refl

pub answers_in_memory : (log : Log) (act : Act) (answer : Answer)
    → ((id code : ℕ) → act ≢ Refuse id code) → MayAnswer log act answer → answer ≢ OutOfMemory
answers_in_memory log act answer other (accepts none is) out =
    in_memory (log_view log) act (sym is ∙ out)
answers_in_memory log act answer other (refuses refusal holds is) out = cc
answers_in_memory log act answer other (lacks none may is) out = cc
answers_in_memory log act answer other (fails none may is) out =
    both_ways _ (never_fails (log_view log) act other) may

-- Nor does another call make the connection fail.
leaves_up : (log : Log) (act : Act) → ((id code : ℕ) → act ≢ Refuse id code)
    → ((code : Code) → act ≢ Fail code) → LeavesUp log act
leaves_up log (Refuse id code) other goes_on = absurd (other id code refl)
leaves_up log (Fail code) other goes_on = absurd (goes_on code refl)
leaves_up log act other goes_on = tt

-- A call puts nothing on the pipe, unless it puts output out.
nothing_given : (other one : JointEnd) (act : Act) (answer : Answer)
    → MayAnswer one.happened.log act answer → ((count : ℕ) → act ≢ PutOut count)
    → with_given other one act answer ≡ other
nothing_given other one act answer may stays =
    ap (λ (octets : List ℕ). record other { incoming = octets })
    (ap (λ (more : List ℕ). other.incoming ++ more)
    (call_gives_nothing one.happened.log act answer may stays) ∙ append-nil other.incoming)

-- What was asked for was so by this call, or before.
asked_before : (made : List Made) (side : Side) (end : EndLog) (act : Act) (answer : Answer)
    → EndHolds made side end → IsOfAct made side act answer → (id code : ℕ)
    → WasAsked ((act, answer) ∷ end.log.calls) id code → WasResetAt made side id code
asked_before made side end act answer holds of_act id code (inl here) =
    elim (first_or_later (act, answer) end.log.calls (ResetStream id code, Done) here) [
      | inl now ↦ of_act.reset id code (ap (λ (p : Act × Answer). p.0) now)
          (ap (λ (p : Act × Answer). p.1) now)
      | inr before ↦ holds.asked id code (inl before)
    ]
asked_before made side end act answer holds of_act id code (inr here) =
    elim (first_or_later (act, answer) end.log.calls (Refuse id code, Done) here) [
      | inl now ↦ absurd (of_act.no_refusal id code (ap (λ (p : Act × Answer). p.0) now))
      | inr before ↦ holds.asked id code (inr before)
    ]

-- A call keeps what holds of an end.
end_kept : (made : List Made) (side : Side) (end : EndLog) (act : Act) (answer : Answer)
    (accepted : List (ℕ × Said)) → EndHolds made side end → IsOfAct made side act answer
    → EndHolds made side (end_called end act answer accepted)
end_kept made side end act answer accepted holds of_act =
    let same = (grows_call end.log act answer).reported in
    record {
      heard = λ i. ap (tokens_heard i) same ∙ holds.heard i;
      says = holds.says;
      passed = λ event here. rw same (holds.passed event here);
      reported = λ event none here. holds.reported event none (rw same at here);
      asked = λ id code here. asked_before made side end act answer holds of_act id code
          (rw (call_calls end.log act answer) at here);
    }

module _ (side : Side) (client_values server_values : Values) (made : List Made)
    (one other : JointEnd) (act : Act) (answer : Answer)
    (accepted : List (ℕ × Said)) where
  -- A call at either end keeps what holds.
  pub called_at : StaysAt side client_values server_values made one other → IsTypedAct act
      → MayAnswer one.happened.log act answer → IsOfAct made side act answer
      → (AllHadMemory made → AcceptAt side (end_called one.happened act answer accepted)
      other.happened)
      → StaysAt side client_values server_values made
      (with_happened one (end_called one.happened act answer accepted))
      (with_given other one act answer)
  unfolding AreUndisturbed IsUndisturbedStep
  called_at stays typed may of_act well =
      let half = half_of one stays.lost in
      let other_half = half_of other stays.other_lost in
      let log = one.happened.log in
      let memory = answers_in_memory log act answer of_act.no_refusal may in
      record {
        lost = stays.lost;
        other_lost = stays.other_lost;
        pair = goes_on_at side client_values server_values half other_half _ _ (AllHadMemory made)
            (AllHadMemory made) stays.pair
            (then_step (no_step half other_half) (calls act answer typed may))
            (λ had. (
              had,
              (
                tt,
                (
                  memory,
                  leaves_up log act of_act.no_refusal
                      (λ code is. of_act.no_end code is had),
                ),
              ),
            ));
        calm = λ had. let calm = stays.calm had in record {
          holds = end_kept made side one.happened act answer accepted calm.holds of_act;
          other_holds = calm.other_holds;
          accepted = well had;
          reported = reported_by side one other _ _
              (λ all finished. call_reports_all log act answer may (all finished)) (λ all. all)
              calm.reported;
        };
      }

  -- So does one that puts no output out.
  pub called_within : StaysAt side client_values server_values made one other → IsTypedAct act
      → MayAnswer one.happened.log act answer → IsOfAct made side act answer
      → ((count : ℕ) → act ≢ PutOut count)
      → (AllHadMemory made → AcceptAt side (end_called one.happened act answer accepted)
      other.happened)
      → StaysAt side client_values server_values made
      (with_happened one (end_called one.happened act answer accepted)) other
  called_within stays typed may of_act within well =
      subst (λ (given : JointEnd). StaysAt side client_values server_values made
      (with_happened one (end_called one.happened act answer accepted)) given)
      (nothing_given other one act answer may within) (called_at stays typed may of_act well)
