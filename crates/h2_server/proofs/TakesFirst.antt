-- A call of `take` uses the first octets of a piece.
use Rattle.std.proofs.Common.{◌≡◌, ◌∙◌, ap, refl, sym, List, ◌++◌, length, take, take_at}
use Rattle.std.specs.Prelude.{ℕ, Option}
use Rattle.h2_spec_log.specs.Acts.{Answer, Refuse}
use Rattle.h2_spec_log.specs.Events.{Event}
use Rattle.h2_spec_log.specs.Log.{Log}
use Rattle.h2_spec_log.specs.LogCalls.{with_call}
use Rattle.h2_spec_log.proofs.StreamLemmas.{Keeps-call}
use Rattle.h2_frame.specs.declared.code.Code.{Code}
use Rattle.h2_laws_end.specs.Takes.{MayTake, Took, Failed}
use Rattle.h2_laws_end.proofs.TakeAnswers.{log_after_take}
use Rattle.h2_ends.specs.Ends.{EndLog, EndAnswer, EndTook, EndFailed}
use Rattle.h2_ends.specs.EndTakes.{EndMayTake, fails, hands_nothing, passes, hands_out, refuses}
use Rattle.h2_ends.specs.EndTakes.{refusal_fails, runs_out_of_memory}
use Rattle.h2_server.specs.Steps.{UsesFirst}

-- The octets of a piece that were used once a call of `take` has this answer: as many as it says;
-- or, where the connection has failed, some first ones.
abbrev pub UsesSo : EndLog → List ℕ → EndAnswer → EndLog → Type 0
UsesSo end piece (EndTook count handed) after = UsesFirst end piece (take count piece) after
UsesSo end piece (EndFailed code) after = (used : List ℕ) × UsesFirst end piece used after

-- So many are the first ones.
counted_first : {piece : List ℕ} (octets unused : List ℕ) (count : ℕ) → piece ≡ octets ++ unused
    → length octets ≡ count → take count piece ≡ octets
counted_first octets unused count split counted =
    ap (λ (all : List ℕ). take count all) split ∙ take_at octets unused count counted

-- The connection has used as many octets as it has answered,
took_first : (end : EndLog) (piece : List ℕ) (count : ℕ) (event : Option Event) (log : Log)
    → MayTake end.log piece (Took count event) log → (after : EndLog)
    → after.log.input ≡ log.input → UsesFirst end piece (take count piece) after
took_first end piece count event log may after same =
    let says = log_after_take end.log log piece (Took count event) may in
    let first = counted_first says.0 says.1 count says.2 says.3 in
    record {
      input = same ∙ says.4 ∙ ap (λ (octets : List ℕ). end.log.input ++ octets) (sym first);
      rest = says.1;
      first = says.2 ∙ ap (λ (octets : List ℕ). octets ++ says.1) (sym first);
    }

-- or some, where it has failed.
failed_first : (end : EndLog) (piece : List ℕ) (code : Code) (log : Log)
    → MayTake end.log piece (Failed code) log → (after : EndLog) → after.log.input ≡ log.input
    → (used : List ℕ) × UsesFirst end piece used after
failed_first end piece code log may after same =
    let says = log_after_take end.log log piece (Failed code) may in
    (says.0, record { input = same ∙ says.3; rest = says.1; first = says.2 })

-- The same where it has refused a stream after that.
refused_input : (log : Log) (id code : ℕ) (answer : Answer)
    → (with_call log (Refuse id code) answer).input ≡ log.input
refused_input log id code answer = (Keeps-call log (Refuse id code) answer).input

-- Whatever a call of `take` answers, it has used the first octets.
pub uses_first : {end : EndLog} {piece : List ℕ} {answer : EndAnswer} {after : EndLog}
    → EndMayTake end piece answer after → UsesSo end piece answer after
uses_first {end} {piece} (fails code log takes same now) =
    rw (same, now) (failed_first end piece code log takes _ refl)
uses_first {end} {piece} (hands_nothing count log takes same now) =
    rw (same, now) (took_first end piece count _ log takes _ refl)
uses_first {end} {piece} (passes count event log takes none same now) =
    rw (same, now) (took_first end piece count _ log takes _ refl)
uses_first {end} {piece} (hands_out count event log takes id part is readable same now) =
    rw (same, now) (took_first end piece count _ log takes _ refl)
uses_first {end} {piece}
    (refuses count event log takes id part is broken refused may up same now) =
    rw (same, now) (took_first end piece count _ log takes _ (refused_input log id 1 refused))
uses_first {end} {piece}
    (refusal_fails count event log takes id part is broken refused may code down same now) =
    rw (same, now)
    (_, took_first end piece count _ log takes _ (refused_input log id 1 refused))
uses_first {end} {piece}
    (runs_out_of_memory count id list ends log takes role none readable refused may same now) =
    rw (same, now)
    (_, took_first end piece count _ log takes _ (refused_input log id 2 refused))
