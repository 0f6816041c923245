-- How many octets a call puts out of the output of a log: as many as were asked for, or all.
use Rattle.h2_engines.proofs.Names
use Names.{◌≡◌, ◌≤◌, ◌<◌, ℕ, ◌+◌, List, [], ◌∷◌, ◌++◌, length, take, drop, refl, sym, ap, ◌∙◌}
use Names.{arith, append-nil, PutOut, Count, None, false, inl, inr, nat_lt, full_output, Log}
use Names.{MayAnswer, accepts, lacks, log_view, given_out, alone, PutsOutNext, waiting, output}
use Names.{with_sent, with_call, both_ways, refuses, fails, if◌then◌else◌, length-append, ◌&&◌}
use Names.{and_cases, WindowUpdate, returns_before_put_out, update_size, max_payload_sent}
use Rattle.h2_spec_log.specs.LogCalls.{called, before_put_out}
use Rattle.std.proofs.lemmas.List.{take_all, length-drop, length-take}
use Rattle.std.proofs.Common.{min, ltb-false}
use Rattle.h2_spec_log.specs.Items.{encoding_of_items}
use Rattle.h2_laws_log.proofs.ItemSizes.{size-update}
use Rattle.h2_laws_log.proofs.CreditCases.{put_out_cases}
use Rattle.h2_engines.proofs.ResponderOutput.{given_more, put_out_octets}

-- how many octets are put out
answered : {log : Log} {count given : ℕ} → MayAnswer log (PutOut count) (Count given)
    → given ≡ min count
    (waiting log + (if returns_before_put_out (log_view log) then update_size else 0))
answered (accepts none is) = cc
answered (refuses refusal some is) = cc
answered (lacks none may is) = cc
answered (fails none may is) = cc

-- Credit that is returned first makes the output longer.
ready_size : (log : Log) → length (before_put_out log).written
    ≡ length log.written + (if returns_before_put_out (log_view log) then update_size else 0)
unfolding with_sent
ready_size log =
    put_out_cases (λ (next : Log). length next.written ≡ length log.written
    + (if returns_before_put_out (log_view log) then update_size else 0)) log (λ returns.
    let update = alone (WindowUpdate 0 log.unreturned) ∷ [] in
    let size : length (encoding_of_items (max_payload_sent log) update) ≡ 13 = size-update _ 0 _ in
    rw returns (omega (
      arith,
      length-append log.written (encoding_of_items (max_payload_sent log) update),
      size,
    ))) (λ keeps. rw keeps (omega arith))

-- As many are put out as were asked for, or all that wait.
record PutsCount (log after : Log) (count given : ℕ) : Type 0 where
  fits : log.given + given ≤ length after.written
  within : given ≤ count
  all : given < count → length after.written ≤ log.given + given

puts_count : {log : Log} {count given : ℕ} → log.given ≤ length log.written
    → MayAnswer log (PutOut count) (Count given)
    → PutsCount log (with_call log (PutOut count) (Count given)) count given
unfolding with_call waiting output
puts_count {log} {count} {given} within may =
    let size = ready_size (called log (PutOut count) (Count given)) in
    let is = answered may in
    record {
      fits = omega (arith, size, within, is);
      within = omega (arith, is);
      all = λ few. omega (arith, size, within, is, few);
    }

-- What was given out then.
call_given : (log : Log) (count given : ℕ)
    → (with_call log (PutOut count) (Count given)).given ≡ log.given + given
unfolding with_call
call_given log count given = refl

octets_size : (octets : List ℕ) (before given : ℕ) → before + given ≤ length octets
    → given ≡ length (drop before (take (before + given) octets))
octets_size octets before given fits =
    omega (
      arith,
      length-drop before (take (before + given) octets),
      length-take (before + given) octets,
      fits,
    )

pub all_given : (log : Log) {given : ℕ} → log.given ≡ given → length log.written ≤ given
    → given_out log ≡ log.written
all_given log {given} is all = ap (λ (n : ℕ). take n log.written) is ∙ take_all _ _ all

-- So octets are put out, and appended to others.
pub puts_out : {log : Log} {count given : ℕ} (old new : List ℕ) → log.given ≤ length log.written
    → MayAnswer log (PutOut count) (Count given) → new ≡ old ++ put_out_octets log count given
    → PutsOutNext log (with_call log (PutOut count) (Count given)) count given old new
puts_out {log} {count} {given} old new within may appended =
    let after = with_call log (PutOut count) (Count given) in
    let puts = puts_count within may in
    record {
      octets = put_out_octets log count given;
      appended = appended;
      next = given_more log count given within;
      counted = octets_size after.written log.given given puts.fits;
      within = puts.within;
      all = λ few. all_given after (call_given log count given) (puts.all few);
    }

-- Where nothing is returned first, nothing is written.
none_written : (log : Log) (count given : ℕ) → returns_before_put_out (log_view log) ≡ false
    → (with_call log (PutOut count) (Count given)).written ≡ log.written
unfolding with_call waiting output
none_written log count given keeps =
    put_out_cases (λ (next : Log). next.written ≡ log.written)
    (called log (PutOut count) (Count given)) (λ returns. absurd (both_ways _ keeps returns))
    (λ kept. refl)

-- So where all that waits is consumed, it is what is put out.
pub consumes_all : {log : Log} {count given : ℕ} (octets : List ℕ)
    → log.given ≤ length log.written → octets ≡ drop log.given log.written
    → waiting log ≤ count → returns_before_put_out (log_view log) ≡ false
    → MayAnswer log (PutOut count) (Count given) → octets ≡ put_out_octets log count given
unfolding waiting output
consumes_all {log} {count} {given} octets within is enough keeps may =
    let given_is = answered may in
    let none : (if returns_before_put_out (log_view log) then update_size else 0) ≡ 0 =
    rw keeps refl in
    let all : length log.written ≤ log.given + given =
    omega (arith, given_is, none, enough, within) in
    is ∙ ap (λ (written : List ℕ). drop log.given written)
    (sym (take_all _ _ all) ∙ ap (λ (written : List ℕ). take (log.given + given) written)
    (sym (none_written log count given keeps)))

-- None waited, and none waits: all of the output was given out; and while the connection is up no
-- credit of it waits to be returned.
pub record PutsNone (log after : Log) : Type 0 where
  pub all : given_out after ≡ after.written
  pub same : after.written ≡ given_out log
  pub returned : after.failed ≡ None → after.unreturned ≡ 0

no_more : (octets none : List ℕ) → 0 ≡ length none → octets ++ none ≡ octets
no_more octets [] is = append-nil octets
no_more octets (one ∷ none) is = absurd (omega arith)

-- Where nothing waits, any credit that is due is returned.
none_more : (more waits : ℕ) → waits ≡ 0 → (nat_lt 0 more && nat_lt waits full_output) ≡ false
    → more ≡ 0
none_more more waits none keeps =
    elim (and_cases (nat_lt 0 more) (nat_lt waits full_output) keeps) [
      | inl low ↦ let few = ltb-false 0 more low in omega (arith, few)
      | inr low ↦ let full = ltb-false waits full_output low in absurd (omega (arith, none, full))
    ]

-- So where none is returned before output is put out, none is due.
pub no_credit_due : (log : Log) → log.failed ≡ None → waiting log ≡ 0
    → returns_before_put_out (log_view log) ≡ false → log.unreturned ≡ 0
unfolding waiting output
no_credit_due log up none keeps = none_more log.unreturned (waiting log) none (rw up at keeps)

-- Where no octets are put out, none is due afterwards.
no_credit_left : {log : Log} {count : ℕ} → 0 < count → MayAnswer log (PutOut count) (Count 0)
    → (with_call log (PutOut count) (Count 0)).failed ≡ None
    → (with_call log (PutOut count) (Count 0)).unreturned ≡ 0
unfolding with_call with_sent waiting output
no_credit_left {log} {count} some may =
    let is = answered may in
    let none : waiting log ≡ 0 = omega (arith, some, is) in
    put_out_cases (λ (next : Log). next.failed ≡ None → next.unreturned ≡ 0)
    (called log (PutOut count) (Count 0)) (λ returns up. refl) (λ keeps up.
    no_credit_due (called log (PutOut count) (Count 0)) up none keeps)

pub none_put : {log : Log} {count : ℕ} → 0 < count → log.given ≤ length log.written
    → MayAnswer log (PutOut count) (Count 0)
    → PutsNone log (with_call log (PutOut count) (Count 0))
none_put {log} {count} some within may =
    let puts = puts_out [] (put_out_octets log count 0) within may refl in
    record {
      all = puts.all some;
      same = sym (puts.all some) ∙ puts.next ∙ no_more (given_out log) puts.octets puts.counted;
      returned = no_credit_left some may;
    }
