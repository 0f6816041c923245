-- What the calls of a server that answer, reset and end say of it, by what its end has answered.
use Rattle.h2_engines.proofs.Names.{◌≡◌, ℕ, Ok, Err, refl, sym, subst, Refusal, TooManyResets}
use Rattle.h2_engines.proofs.Names.{Memory, ResetStream, Refused, LinkError, Message, SentMessage}
use Rattle.h2_engines.proofs.Names.{End, EndRefusal, EndAnswers, error_after, calm, ResetSo, ◌∙◌}
use Rattle.h2_engines.proofs.Names.{ap, Result, Done, answer_by, ◌≢◌, Conn, EndResponds}
use Rattle.h2_engines.specs.ServerSteps.{ServerAnswers, ServerResets, is_refused, AnsweredSo}
use Rattle.std.proofs.Common.{IfOk, IfErr}

-- The answer is taken.
pub answers_done : (old new : End) (id : ℕ) {message is : SentMessage} (count : ℕ)
    (done : Unit {0}) → message ≡ is → EndResponds old id message (Ok done) new
    → ServerAnswers old new id is count (Ok done)
unfolding AnsweredSo
answers_done old new id count done same responds values end represents =
    let (after, may, now) = responds.1 values end represents in
    (after, now, rw (sym same) may)

-- The answer is refused.
pub answers_refused : (old new : End) (id : ℕ) {message is : SentMessage} (count : ℕ)
    (back : Message × EndRefusal) {error : LinkError} → message ≡ is → error ≡ error_after back.1
    → EndResponds old id message (Err back) new → ServerAnswers old new id is count (Err error)
unfolding AnsweredSo
answers_refused old new id count back same ends responds values end represents =
    let (after, may, now) = responds.1 values end represents in
    (after, now, is_refused back.1 (rw (sym same) may) ends)

-- A reset that was refused otherwise ends as the refusal says.
reset_after : (refusal : Refusal) → refusal ≢ TooManyResets
    → ResetSo (Refused refusal) (Err (error_after (Conn refusal)))
unfolding ResetSo
reset_after Memory other = refl
reset_after refusal other = (refusal, refl, other, refl)

-- So the reset was refused otherwise.
pub resets_refused : (old new : End) (id : ℕ) (refusal : Refusal) {error : LinkError}
    → refusal ≢ TooManyResets → error ≡ error_after (Conn refusal)
    → EndAnswers old (ResetStream id calm) (Refused refusal) new
    → ServerResets old new id (Err error)
resets_refused old new id refusal other is answers values end represents =
    let (may, now) = answers values end represents in
    let so = reset_after refusal other in (
      Refused refusal,
      may,
      now,
      subst (λ (one : LinkError). ResetSo (Refused refusal) (Err one)) (sym is) so,
    )

-- So any answer but that resets are used up is taken.
pub resets_as : (old new : End) (id : ℕ) (answer : Result (Unit {0}) Refusal)
    (result : Result (Unit {0}) LinkError) → answer ≢ Err TooManyResets
    → IfOk result (λ value. answer ≡ Ok value)
    → IfErr result (λ error. (refused : Refusal) × (refusal : EndRefusal)
    × (answer ≡ Err refused) × (refusal ≡ Conn refused) × (error ≡ error_after refusal))
    → EndAnswers old (ResetStream id calm) (answer_by (λ done. Done) answer) new
    → ServerResets old new id result
unfolding ResetSo
resets_as old new id answer (Ok done) other ok err answers = λ values end represents.
    let (may, now) = (rw ok at answers) values end represents in (Done, may, now, refl)
resets_as old new id answer (Err error) other ok (refused, refusal, same, made, ends) answers =
    resets_refused old new id refused (λ is. other (same ∙ ap Err is))
    (ends ∙ ap error_after made) (rw same at answers)
