-- A call of `take` is made of steps of the pair, undisturbed unless it answers INTERNAL_ERROR.
use Rattle.h2_laws_pair.proofs.Names.{◌≡◌, ◌≢◌, ℕ, List, [], ◌++◌, length, refl, sym, append_assoc}
use Rattle.h2_laws_pair.proofs.Names.{append-nil, subst, InternalError, Log, MachineStep, MayStep}
use Rattle.h2_laws_pair.proofs.Names.{log_after, Half, takes, octets_used, IsUndisturbedStep}
use Rattle.h2_laws_end.specs.Takes.{TakeAnswer, Took, Failed, MayTake, has_failed}
use Rattle.h2_laws_end.specs.Takes.{reports_unprocessed, ends_no_frame, ends_frame, meets_fault}
use Rattle.h2_laws_end.specs.Takes.{runs_out_of_memory, AnswersFrame}
use Rattle.h2_laws_pair.specs.Steps.{HalfSteps, no_step, then_step, AreUndisturbed, UsesOctets}
use Rattle.h2_laws_pair.specs.Steps.{TakesInPair}
use Rattle.h2_laws_pair.proofs.StepsOfLogs.{IsNoCall}
use Rattle.h2_laws_machine.specs.Machines as machine

-- The call is made of steps, and they are undisturbed, unless it answers INTERNAL_ERROR.
abbrev pub AreStepsOfTake : (one other : Half) (piece later : List ℕ) (answer : TakeAnswer)
    (after : Log) → Type 0
AreStepsOfTake one other piece later answer after =
    (taken : TakesInPair one other piece later answer after)
    × (answer ≢ Failed InternalError → AreUndisturbed taken.steps)

-- No step.
abbrev Stays : Half → Half → List ℕ → Type 0
Stays one other incoming =
    (steps : HalfSteps one other (record one { incoming = incoming }) other)
    × AreUndisturbed steps

-- It leaves an end as it is, undisturbed.
stays : (one other : Half) → Stays one other one.incoming
unfolding AreUndisturbed
stays one other = (no_step one other, tt)

-- A call that is no step.
uses_none : (one other : Half) (piece later : List ℕ) (answer : TakeAnswer)
    → one.incoming ≡ piece ++ later → UsesOctets answer 0
    → AreStepsOfTake one other piece later answer one.log
uses_none one other piece later answer came used =
    let none = subst (λ (incoming : List ℕ). Stays one other incoming) came (stays one other) in (
      record { octets = []; unused = piece; joined = refl; used = used; steps = none.0 },
      λ some. none.1,
    )

-- One step.
one_step : (one other : Half) (piece later unused : List ℕ) (answer : TakeAnswer)
    (step : MachineStep)
    → one.incoming ≡ piece ++ later → piece ≡ octets_used step ++ unused
    → UsesOctets answer (length (octets_used step)) → MayStep one.log step → IsNoCall step
    → (answer ≢ Failed InternalError → (octets : List ℕ) → step ≢ machine.runs_out_of_memory octets)
    → AreStepsOfTake one other piece later answer (log_after one.log step)
unfolding AreUndisturbed IsUndisturbedStep
one_step one other piece later unused answer step came joined used may none calm = (
  record {
    octets = octets_used step;
    unused = unused;
    joined = joined;
    used = used;
    steps = then_step (no_step one other) (takes step (unused ++ later) may none
        (rw (came, joined, append_assoc) refl));
  },
  λ other_answer. (tt, calm other_answer),
)

-- Once a frame has ended, the octets are counted.
frame_uses : (before after : Log) (count : ℕ) (answer : TakeAnswer)
    → AnswersFrame before after count answer → UsesOctets answer count
frame_uses before after count (Took n event) answers = sym answers.0
frame_uses before after count (Failed code) answers = tt

-- A call of `take`.
pub take_is_steps : (one other : Half) (piece later : List ℕ) (answer : TakeAnswer) (after : Log)
    → one.incoming ≡ piece ++ later → MayTake one.log piece answer after
    → AreStepsOfTake one other piece later answer after
unfolding MayStep log_after
take_is_steps one other piece later answer after came (has_failed code failed answers same) =
    rw (answers, same) (uses_none one other piece later (Failed code) came tt)
take_is_steps one other piece later answer after came (reports_unprocessed up some answers same) =
    rw (answers, same) (one_step one other piece later piece _ machine.reports_unprocessed came
    refl refl (up, some) (λ act answer is. cc) (λ other octets is. cc))
take_is_steps one other piece later answer after came
    (ends_no_frame ready unparsed part answers same) =
    rw (answers, same) (one_step one other piece later [] _ (machine.uses_part piece unparsed) came
    (sym (append-nil piece)) refl (ready, part) (λ act answer is. cc) (λ other octets is. cc))
take_is_steps one other piece later answer after came
    (ends_frame ready octets unused joined frame decoded framed sees same answers) =
    rw same (one_step _ _ _ _ unused answer (machine.ends_frame octets frame decoded) came joined
    (frame_uses one.log after (length octets) answer answers)
    (ready, framed, sees) (λ act answer is. cc) (λ other octets is. cc))
take_is_steps one other piece later answer after came
    (meets_fault ready octets unused joined fault at answers same) =
    rw (answers, same) (one_step one other piece later unused _ (machine.meets_fault octets fault)
    came joined tt (ready, at) (λ act answer is. cc) (λ other octets is. cc))
take_is_steps one other piece later answer after came
    (runs_out_of_memory up octets unused joined may answers same) =
    rw (answers, same) (one_step one other piece later unused _
    (machine.runs_out_of_memory octets) came joined tt (up, (unused, may)) (λ act answer is. cc)
    (λ other. absurd (other refl)))
