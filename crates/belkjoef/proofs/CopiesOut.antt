-- The output made ready, copied and taken away.
use Rattle.std.proofs.Common.{◌≡◌, ◌∙◌, refl, sym, ap, subst, ℕ, ◌+◌, List, ◌++◌, length}
use Rattle.std.proofs.Common.{take, drop, arith, length-drop}
use Rattle.std.specs.Prelude.{false, if◌then◌else◌, min, Result, Ok, Err, IsOk}
use Rattle.std.proofs.lemmas.Bool.{false≢true}
use Rattle.h2_spec_log.specs.declared.refusal.Refusal.{Refusal}
use Rattle.h2_spec_log.specs.Acts.{Values, PutOut, Count, Refused}
use Rattle.h2_spec_log.specs.CallRules.{returns_before_put_out, update_size}
use Rattle.h2_spec_log.specs.Log.{Log, waiting, output}
use Rattle.h2_spec_log.specs.LogView.{log_view}
use Rattle.h2_spec_log.specs.LogCalls.{MayAnswer, accepts, refuses, lacks, fails, with_call}
use Rattle.h2_ends.specs.declared.end.End.{End}
use Rattle.h2_ends.specs.Ends.{EndLog}
use Rattle.h2_ends.specs.EndTakes.{end_with_log}
use Rattle.h2_ends.specs.Represents.{EndRepresents}
use Rattle.belkjoef.specs.Calls.{ReadiesEnd, ConsumesEnd}
use Rattle.belkjoef.specs.Output.{EndCopiesOut, MayCopyOut, IsReadyOutput, OkIfReady, OctetsWait}
use Rattle.belkjoef.specs.Output.{output_waiting}

-- Memory was refused as the output was made ready.
pub copies_none : (before : List ℕ) {old new : End} {readied : Result (Unit {0}) Refusal}
    {result : Result ℕ Refusal} (refusal : Refusal) → readied ≡ Err refusal
    → result ≡ Err refusal → ReadiesEnd old readied new → EndCopiesOut before before old result new
unfolding MayCopyOut
copies_none before {old = old} {new = new} refusal is same readies values end represents =
    let done = subst (λ (r : Result (Unit {0}) Refusal). ReadiesEnd old r new) is readies values
    end represents in
    rw same (
      end_with_log end (with_call end.log (PutOut 0) (Refused refusal)),
      (done.0, refl, refl),
      done.1,
    )

-- How many octets are taken away, where nothing is returned first.
pub given_of : (log : Log) (count given : ℕ) → returns_before_put_out (log_view log) ≡ false
    → MayAnswer log (PutOut count) (Count given) → given ≡ min count (waiting log)
given_of log count given ready (accepts none is) =
    let e : given ≡ min count (waiting log
    + (if returns_before_put_out (log_view log) then update_size else 0)) = cc in
    omega (arith, rw ready at e)
given_of log count given ready (refuses refusal some is) = cc
given_of log count given ready (lacks none some is) = cc
given_of log count given ready (fails none some is) = cc

-- Once it is ready, all that were copied are taken away.
after_ready : (before buffer octets : List ℕ) (count : ℕ) {ready new : End}
    (consumed : Result ℕ Refusal) (values : Values) (end : EndLog)
    → MayAnswer end.log (PutOut 0) (Count 0)
    → EndRepresents values ready (end_with_log end (with_call end.log (PutOut 0) (Count 0)))
    → returns_before_put_out (log_view (with_call end.log (PutOut 0) (Count 0))) ≡ false
    → octets ≡ output_waiting (with_call end.log (PutOut 0) (Count 0))
    → count ≡ min (length before) (length octets)
    → buffer ≡ take count octets ++ drop count before
    → ConsumesEnd count ready consumed new → IsOk consumed
    → (after : EndLog) × MayCopyOut end before buffer consumed after
    × EndRepresents values new after
unfolding MayCopyOut waiting output
after_ready before buffer octets count (Err refusal) values end may represents none wait many
    copied consumes done = absurd (false≢true done)
after_ready before buffer octets count {ready = ready} {new = new} (Ok given) values end may
    represents none wait many copied consumes done =
    let log = with_call end.log (PutOut 0) (Count 0) in
    let all : length octets ≡ waiting log =
    ap (λ (o : List ℕ). length o) wait ∙ length-drop log.given log.written in
    let taken = consumes values (end_with_log end log) represents in
    let by = given_of log count given none taken.0 in
    let e : given ≡ count = omega (arith, by, many, all) in
    let same = subst (λ (n : ℕ). MayAnswer log (PutOut n) (Count given) × EndRepresents values new
    (end_with_log end (with_call log (PutOut n) (Count given)))) (sym e) taken in (
      end_with_log end (with_call log (PutOut given) (Count given)),
      (
        may,
        same.0,
        refl,
        e ∙ (many ∙ ap (λ (n : ℕ). min (length before) n) all),
        copied ∙ (ap (λ (n : ℕ). take n octets ++ drop n before) (sym e)
            ∙ ap (λ (o : List ℕ). take given o ++ drop given before) wait),
      ),
      same.1,
    )

-- Each octet that there is room for is copied, and all that were are taken away.
pub copies_out : (before buffer octets : List ℕ) (count : ℕ) (consumed : Result ℕ Refusal)
    {old ready new : End} {readied : Result (Unit {0}) Refusal} → readied ≡ Ok tt
    → ReadiesEnd old readied ready → IsReadyOutput ready → OctetsWait ready octets
    → count ≡ min (length before) (length octets)
    → buffer ≡ take count octets ++ drop count before
    → ConsumesEnd count ready consumed new → OkIfReady ready consumed
    → EndCopiesOut before buffer old consumed new
copies_out before buffer octets count consumed {old = old} {ready = ready} is readies returned wait
    many copied consumes room values end represents =
    let log = with_call end.log (PutOut 0) (Count 0) in
    let made = subst (λ (r : Result (Unit {0}) Refusal). ReadiesEnd old r ready) is readies values
    end represents in
    let conn = made.1.streams.conn in
    let none = returned values log conn in
    after_ready before buffer octets count consumed values end made.0 made.1 none
    (wait values log conn) many copied consumes (room values log conn none)
