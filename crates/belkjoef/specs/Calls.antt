-- What a function of belkjoef.h does with a place, and what it answers.
use Rattle.std.specs.Prelude.{◌≡◌, ℕ, ℤ, Bool, List, Option, None, Some, Result}
use Rattle.h2_spec_log.specs.Acts.{Act, Done, Count, PutOut}
use Rattle.h2_spec_log.specs.declared.refusal.Refusal.{Refusal}
use Rattle.h2_conn.specs.Conn.{answer_by}
use Rattle.h2_ends.specs.declared.end.End.{End}
use Rattle.h2_ends.specs.declared.refusal.EndRefusal.{EndRefusal}
use Rattle.h2_ends.specs.Represents.{EndAnswers, EndSendsBody}
use Rattle.belkjoef.specs.declared.held.Held.{Held}
use Rattle.belkjoef.specs.Helds.{held_end, KeepsAllElse}
use Rattle.belkjoef.specs.Numbers.{empty, none, ok}

-- Where the place holds no end it answers that, and still holds none; else it does this with the
-- end.
-- rule: c (own) A place holds an end or nothing, and each call says which
abbrev pub OnPlace : {A : Type 0} → ℤ → (A → A → Type 0) → Option A → Option A → Type 0
OnPlace answer Does None new = (answer ≡ empty) × (new ≡ None)
OnPlace answer Does (Some old) None = ⊥
OnPlace answer Does (Some old) (Some new) = Does old new

-- The end does this, with this outcome, which the answer is the number of; and all else that the
-- place holds is kept.
-- rule: c (own) A call of C's is that of the end in its place
pub record Answers {A : Type 0} (number : A → ℤ) (Does : End → A → End → Type 0) (answer : ℤ)
    (old new : Held) : Type 0 where
  pub outcome : A
  pub told : answer ≡ number outcome
  pub does : Does (held_end old) outcome (held_end new)
  pub keeps : KeepsAllElse old new

-- a call that is the connection's own
abbrev pub ActsOnEnd : Act → End → Result (Unit {0}) Refusal → End → Type 0
ActsOnEnd act old outcome new = EndAnswers old act (answer_by (λ done. Done) outcome) new

-- The same of a call that also says a value.
-- rule: c (own) A call of C's is that of the end in its place
pub record AnswersWith {A B : Type 0} (number : A → ℤ) (out : A → B)
    (Does : End → A → End → Type 0) (answer : ℤ) (said : B) (old new : Held) : Type 0 where
  pub outcome : A
  pub told : answer ≡ number outcome
  pub value : said ≡ out outcome
  pub does : Does (held_end old) outcome (held_end new)
  pub keeps : KeepsAllElse old new

-- The end answers this of itself, and is as it was.
-- rule: c (own) A reader says what the end in its place answers
pub record AnswersOfEnd {A : Type 0} (number : A → ℤ) (Is : End → A → Type 0) (answer : ℤ)
    (old new : Held) : Type 0 where
  pub outcome : A
  pub told : answer ≡ number outcome
  pub is : Is (held_end old) outcome
  pub same : new ≡ old

-- the output made ready, and octets of it taken away
abbrev pub ReadiesEnd : End → Result (Unit {0}) Refusal → End → Type 0
ReadiesEnd old outcome new = EndAnswers old (PutOut 0) (answer_by (λ done. Count 0) outcome) new

abbrev pub ConsumesEnd : ℕ → End → Result ℕ Refusal → End → Type 0
ConsumesEnd count old outcome new =
    EndAnswers old (PutOut count) (answer_by (λ given. Count given) outcome) new

-- octets of a body sent
abbrev pub SendsBody : ℕ → List ℕ → Bool → End → Result ℕ EndRefusal → End → Type 0
SendsBody id octets ends old outcome new = EndSendsBody old id octets ends outcome new

-- 0 where something was found
abbrev pub found_number : {A : Type 0} → Option A → ℤ
found_number None = none
found_number (Some value) = ok

-- what was found, or what stood there
abbrev pub found_or : {A : Type 0} → A → Option A → A
found_or before None = before
found_or before (Some value) = value

-- The end answers this of itself, if there is such a value, and is as it was.
-- rule: c (own) A reader says what the end in its place answers
pub record FindsInEnd {A : Type 0} (Is : End → Option A → Type 0) (answer : ℤ) (before said : A)
    (old new : Held) : Type 0 where
  pub found : Option A
  pub told : answer ≡ found_number found
  pub value : said ≡ found_or before found
  pub is : Is (held_end old) found
  pub same : new ≡ old

-- The end answers this value of itself, and is as it was.
-- rule: c (own) A reader says what the end in its place answers
pub record SaysOfEnd {A : Type 0} (Is : End → A → Type 0) (answer : ℤ) (said : A) (old new : Held)
    : Type 0 where
  pub told : answer ≡ ok
  pub is : Is (held_end old) said
  pub same : new ≡ old

-- what bj_free answers
-- rule: c (own) A place holds an end or nothing, and each call says which
abbrev pub FreesPlace : {A : Type 0} → Option A → ℤ → Type 0
FreesPlace None answer = answer ≡ empty
FreesPlace (Some old) answer = answer ≡ ok
