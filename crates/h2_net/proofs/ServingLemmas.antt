-- One more connection is served: the status of the first that has ended early.
use Rattle.std.proofs.Common.{◌≡◌, ◌≢◌, ◌+◌, ℕ, List, [], ◌∷◌, ◌++◌, Result, Ok, Err, refl, sym, ap}
use Rattle.std.proofs.Common.{◌∙◌, true, false, length-append}
use Rattle.std.proofs.lemmas.Bool.{both_ways}
use Rattle.std.proofs.ByRecursion.{All-append}
use denote.Enum.Bare.{sameb}
use Rattle.h2_cli.specs.contracts.status.Status.{the_type}
use Rattle.h2_cli.specs.declared.status.Status.{Status}
use Rattle.h2_cli.specs.declared.status.Status.TheVariants.{Good, Fault, Usage, Device, Memory}
use Rattle.h2_link.specs.declared.error.LinkError.{LinkError}
use Rattle.h2_link.specs.declared.error.LinkError.TheVariants as errors
use Rattle.h2_engines.specs.Failures.{EndsServing}
use Rattle.h2_net.specs.Endings.{IsServingStatus, status_with}
use Rattle.h2_net.specs.Serving.{ServesConnection, ServesConnections, status_of_first}

-- No error has the status of a good end.
never_good : (error : LinkError) → status_with error ≡ Good → ⊥
never_good errors.Device good = absurd (cc)
never_good (errors.Stream code) good = absurd (cc)
never_good errors.Memory good = absurd (cc)
never_good errors.CutOff good = absurd (cc)
never_good errors.NoProgress good = absurd (cc)
never_good (errors.Reset code) good = absurd (cc)
never_good errors.Refused good = absurd (cc)

-- A status by its test.
pub is_good : (status : Status) → sameb the_type status Good ≡ true → status ≡ Good
is_good Good is = refl
is_good Fault is = absurd (both_ways false refl is)
is_good Usage is = absurd (both_ways false refl is)
is_good Device is = absurd (both_ways false refl is)
is_good Memory is = absurd (both_ways false refl is)

-- An early end of a connection that was served has a status of serving.
pub may_end : (error : LinkError) → EndsServing error → IsServingStatus (status_with error)
may_end errors.Device ends = tt
may_end (errors.Stream code) ends = tt
may_end errors.Memory ends = tt
may_end errors.CutOff ends = tt
may_end errors.NoProgress ends = tt
may_end (errors.Reset code) ends = absurd ends
may_end errors.Refused ends = absurd ends

-- A connection that ends well changes nothing,
first_after_good : (ended : List (Result (Unit {0}) LinkError)) (done : Unit {0})
    → status_of_first (ended ++ Ok done ∷ []) ≡ status_of_first ended
first_after_good [] done = refl
first_after_good (Ok one ∷ later) done = first_after_good later done
first_after_good (Err error ∷ later) done = refl

-- nor one that comes after an early end;
first_is_kept : (ended : List (Result (Unit {0}) LinkError)) (next : Result (Unit {0}) LinkError)
    → status_of_first ended ≢ Good → status_of_first (ended ++ next ∷ []) ≡ status_of_first ended
first_is_kept [] next early = absurd (early refl)
first_is_kept (Ok one ∷ later) next early = first_is_kept later next early
first_is_kept (Err error ∷ later) next early = refl

-- and the first that ends early has its own status.
first_is_new : (ended : List (Result (Unit {0}) LinkError)) (error : LinkError)
    → status_of_first ended ≡ Good
    → status_of_first (ended ++ Err error ∷ []) ≡ status_with error
first_is_new [] error good = refl
first_is_new (Ok one ∷ later) error good = first_is_new later error good
first_is_new (Err other ∷ later) error good = absurd (never_good other good)

-- One more was served.
one_more : {count : ℕ} {status : Status} (before : ServesConnections count status)
    (next : Result (Unit {0}) LinkError) (now : Status) → ServesConnection next
    → now ≡ status_of_first (before.ended ++ next ∷ []) → ServesConnections (count + 1) now
one_more before next now serves first =
    record {
      ended = before.ended ++ next ∷ [];
      counted = length-append before.ended (next ∷ []) ∙ ap (λ n. n + 1) before.counted;
      served = All-append ServesConnection before.ended (next ∷ []) before.served (serves, tt);
      first = first;
    }

pub serves_good : {count : ℕ} {status : Status} (done : Unit {0})
    → ServesConnections count status → ServesConnection (Ok done)
    → ServesConnections (count + 1) status
serves_good {status = status} done before serves =
    one_more before (Ok done) status serves
    (before.first ∙ sym (first_after_good before.ended done))

pub serves_kept : {count : ℕ} {status : Status} (error : LinkError)
    → ServesConnections count status → ServesConnection (Err error) → status ≢ Good
    → ServesConnections (count + 1) status
serves_kept {status = status} error before serves early =
    one_more before (Err error) status serves
    (before.first
    ∙ sym (first_is_kept before.ended (Err error) (λ good. early (before.first ∙ good))))

pub serves_new : {count : ℕ} {status : Status} (error : LinkError)
    → ServesConnections count status → ServesConnection (Err error) → status ≡ Good
    → ServesConnections (count + 1) (status_with error)
serves_new error before serves good =
    one_more before (Err error) (status_with error) serves
    (sym (first_is_new before.ended error (sym before.first ∙ good)))
