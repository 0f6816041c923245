-- The output of a connection made ready, copied and taken away.
use Rattle.std.proofs.Common.{◌≡◌, ◌∙◌, refl, sym, ap, subst, ℕ, List, ◌++◌, length}
use Rattle.std.proofs.Common.{take, drop, arith, length-drop}
use Rattle.std.specs.Prelude.{false, min, Result, Ok, Err, IsOk}
use Rattle.std.proofs.lemmas.Bool.{false≢true}
use Rattle.h2_spec_log.specs.declared.refusal.Refusal.{Refusal}
use Rattle.h2_spec_log.specs.Acts.{Values, PutOut, Count, Refused}
use Rattle.h2_spec_log.specs.CallRules.{returns_before_put_out}
use Rattle.h2_spec_log.specs.Log.{Log, waiting, output}
use Rattle.h2_spec_log.specs.LogView.{log_view}
use Rattle.h2_spec_log.specs.LogCalls.{MayAnswer, with_call}
use Rattle.h2_conn.specs.declared.conn.Conn.{Conn}
use Rattle.h2_conn.specs.Conn.{ConnRepresents}
use Rattle.belkjoef.specs.ConnOutput.{ConnCopiesOut, MayCopyOutOfConn, IsReadyConn, ConnOkIfReady}
use Rattle.belkjoef.specs.ConnOutput.{OctetsWaitIn}
use Rattle.belkjoef.specs.Conns.{ReadiesConn, ConsumesConn}
use Rattle.belkjoef.specs.Output.{output_waiting}
use Rattle.belkjoef.proofs.CopiesOut.{given_of}

-- Memory was refused as the output was made ready.
pub conn_copies_none : (old new : Conn) (before : List ℕ) {readied : Result (Unit {0}) Refusal}
    {result : Result ℕ Refusal} (refusal : Refusal) → readied ≡ Err refusal
    → result ≡ Err refusal → ReadiesConn old readied new
    → ConnCopiesOut before before old result new
unfolding MayCopyOutOfConn
conn_copies_none old new before refusal is same readies values log represents =
    let done = subst (λ (r : Result (Unit {0}) Refusal). ReadiesConn old r new) is readies values
    log represents in
    rw same (with_call log (PutOut 0) (Refused refusal), (done.0, refl, refl), done.1)

-- Once it is ready, all that were copied are taken away.
after_ready : (ready new : Conn) (before buffer octets : List ℕ) (count : ℕ)
    (consumed : Result ℕ Refusal) (values : Values) (log : Log)
    → MayAnswer log (PutOut 0) (Count 0)
    → ConnRepresents values ready (with_call log (PutOut 0) (Count 0))
    → returns_before_put_out (log_view (with_call log (PutOut 0) (Count 0))) ≡ false
    → octets ≡ output_waiting (with_call log (PutOut 0) (Count 0))
    → count ≡ min (length before) (length octets)
    → buffer ≡ take count octets ++ drop count before
    → ConsumesConn count ready consumed new → IsOk consumed
    → (after : Log) × MayCopyOutOfConn log before buffer consumed after
    × ConnRepresents values new after
unfolding MayCopyOutOfConn waiting output
after_ready ready new before buffer octets count (Err refusal) values log may represents none wait
    many copied consumes done = absurd (false≢true done)
after_ready ready new before buffer octets count (Ok given) values log may represents none wait many
    copied consumes done =
    let readied = with_call log (PutOut 0) (Count 0) in
    let all : length octets ≡ waiting readied =
    ap (λ (o : List ℕ). length o) wait ∙ length-drop readied.given readied.written in
    let taken = consumes values readied represents in
    let by = given_of readied count given none taken.0 in
    let e : given ≡ count = omega (arith, by, many, all) in
    let same = subst (λ (n : ℕ). MayAnswer readied (PutOut n) (Count given)
    × ConnRepresents values new (with_call readied (PutOut n) (Count given))) (sym e) taken in (
      with_call readied (PutOut given) (Count given),
      (
        may,
        same.0,
        refl,
        e ∙ (many ∙ ap (λ (n : ℕ). min (length before) n) all),
        copied ∙ (ap (λ (n : ℕ). take n octets ++ drop n before) (sym e)
            ∙ ap (λ (o : List ℕ). take given o ++ drop given before) wait),
      ),
      same.1,
    )

-- Each octet that there is room for is copied, and all that were are taken away.
pub conn_copies_out : (old ready new : Conn) (before buffer octets : List ℕ) (count : ℕ)
    (consumed : Result ℕ Refusal) {readied : Result (Unit {0}) Refusal} → readied ≡ Ok tt
    → ReadiesConn old readied ready → IsReadyConn ready → OctetsWaitIn ready octets
    → count ≡ min (length before) (length octets)
    → buffer ≡ take count octets ++ drop count before
    → ConsumesConn count ready consumed new → ConnOkIfReady ready consumed
    → ConnCopiesOut before buffer old consumed new
conn_copies_out old ready new before buffer octets count consumed is readies returned wait
    many copied consumes room values log represents =
    let readied = with_call log (PutOut 0) (Count 0) in
    let made = subst (λ (r : Result (Unit {0}) Refusal). ReadiesConn old r ready) is readies values
    log represents in
    let none = returned values readied made.1 in
    after_ready ready new before buffer octets count consumed values log made.0 made.1 none
    (wait values readied made.1) many copied consumes (room values readied made.1 none)
