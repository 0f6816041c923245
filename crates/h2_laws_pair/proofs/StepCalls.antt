-- What calls give out: nothing, unless output is put out. Only the refusal of a stream, a call for
-- it, and memory that runs out make the connection fail.
use Rattle.h2_laws_pair.proofs.Names.{◌≡◌, ◌≢◌, ℕ, List, [], take, drop, refl, arith, length-take}
use Rattle.h2_laws_pair.proofs.Names.{Act, Answer, PutOut, Refuse, Count, OutOfMemory, Refused, Log}
use Rattle.h2_laws_pair.proofs.Names.{with_call, MayAnswer, given_since, Fail, Code}
use Rattle.h2_laws_log.proofs.GrowthBySteps.{HoldsOfFailures, holds_other_call, HoldsOfWrites}
use Rattle.h2_laws_log.proofs.GrowthBySteps.{holds_ready, holds_items}
use Rattle.std.proofs.lemmas.List.{drop_all}
use Rattle.h2_laws_log.proofs.PartsStay.{stays_written, SamePart}
pub use Rattle.h2_laws_log.proofs.CreditCases.{put_out_cases}

-- The second log has given out as much.
abbrev SameGiven : Log → Log → Type 0
SameGiven before after = after.given ≡ before.given

-- What is written is not given out yet.
failure_given : HoldsOfFailures SameGiven
failure_given = record {
  writes = stays_written (λ log. log.given) (λ log sent written payloads turns. refl)
      (λ log count. refl);
  failed = λ log code. refl;
}

-- So a call that doesn't put output out leaves what was given out.
pub call_given : (log : Log) (act : Act) (answer : Answer)
    → ((count : ℕ) → act ≢ PutOut count) → (with_call log act answer).given ≡ log.given
call_given log act answer other = holds_other_call SameGiven failure_given log act answer other

-- Nothing stands behind octets, where as many are dropped as were taken.
none_behind : (count given : ℕ) (octets : List ℕ) → given ≡ count
    → drop count (take given octets) ≡ []
none_behind count given octets same =
    drop_all count (take given octets) (omega (arith, same, length-take given octets))

-- And it gives nothing out.
pub call_gives_nothing : (log : Log) (act : Act) (answer : Answer) → MayAnswer log act answer
    → ((count : ℕ) → act ≢ PutOut count) → given_since log (with_call log act answer) ≡ []
call_gives_nothing log act answer may other = none_behind log.given _ _ (call_given _ _ _ other)

-- The second log has failed as the first.
abbrev FailedAs : Log → Log → Type 0
FailedAs = SamePart (λ log. log.failed)

failed_as : HoldsOfWrites FailedAs
failed_as =
    stays_written (λ log. log.failed) (λ log sent written payloads turns. refl) (λ log count. refl)

-- No call but the refusal of a stream, and the one that asks for it, makes the connection fail, as
-- long as memory suffices.
pub call_failed : (log : Log) (act : Act) (answer : Answer)
    → ((id code : ℕ) → act ≢ Refuse id code) → ((code : Code) → act ≢ Fail code)
    → answer ≢ OutOfMemory
    → (with_call log act answer).failed ≡ log.failed
unfolding with_call
call_failed log act (Refused refusal) other goes_on memory = refl
call_failed log act OutOfMemory other goes_on memory = absurd (memory refl)
call_failed log (Refuse id code) answer other goes_on memory = absurd (other id code refl)
call_failed log (Fail code) answer other goes_on memory = absurd (goes_on code refl)
call_failed log (PutOut count) (Count given) other goes_on memory =
    holds_ready FailedAs failed_as _
call_failed log act answer other goes_on memory = holds_items FailedAs failed_as log act answer
