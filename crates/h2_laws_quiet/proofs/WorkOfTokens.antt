-- How many tokens wait at an end: none more after a call, and as many less as have gone.
use Rattle.std.proofs.Common.{◌≡◌, ◌≢◌, ℕ, zero, suc, ◌+◌, ◌-◌, ◌≤◌, Bool, true, false}
use Rattle.std.proofs.Common.{if◌then◌else◌, length, refl, ap}
use Rattle.std.proofs.Common.{arith, length-drop, length-append, zero-add, suc-add}
use Rattle.std.proofs.lemmas.Bool.{both_ways, false_from_ne_true}
use Rattle.h2_spec_log.specs.Acts.{Act, Answer}
use Rattle.h2_spec_log.specs.Log.{active}
use Rattle.h2_spec_log.specs.LogCalls.{with_call}
unfoldable use Rattle.h2_laws_log.specs.Sums.{sum_below}
use Rattle.h2_laws_log.proofs.LogHistory.{sum_less, sum_moves}
use Rattle.h2_laws_log.proofs.ReaderStates.{active_parts}
use Rattle.h2_laws_log.proofs.StreamNumbers.{block_below}
use Rattle.h2_laws_pair.specs.Tokens.{tokens_of_call}
use Rattle.h2_ends.specs.Ends.{EndLog, tokens_said, tokens_out, tokens_waiting}
use Rattle.h2_ends.specs.Pumping.{end_after_call}
use Rattle.h2_ends.proofs.PumpStuck.{out_after}
use Rattle.h2_laws_quiet.specs.Work.{above_streams, tokens_on, tokens_left}

-- Above the numbers of an end no token waits.
pub none_beyond : (end : EndLog) (i : ℕ) → above_streams end.log ≤ i → tokens_on end i ≡ 0
unfolding tokens_on
none_beyond end i above =
    let log = end.log in
    let over : active log i ≡ false = false_from_ne_true _ (λ alive.
    let low = block_below i _
    (active_parts log.role i log.received log.sent log.reported alive).opened in
    omega (arith, low, above)) in
    rw over refl

-- So a sum over more numbers is the same.
pub sum_ends : (n more : ℕ) (f : ℕ → ℕ) → ((i : ℕ) → n ≤ i → f i ≡ 0)
    → sum_below (more + n) f ≡ sum_below n f
unfolding sum_below
sum_ends n zero f none = rw (zero-add n) refl
sum_ends n (suc more) f none =
    rw (suc-add more n) (omega (arith, none (more + n) (omega arith), sum_ends n more f none))

pub left_below : (end : EndLog) (more : ℕ)
    → sum_below (more + above_streams end.log) (tokens_on end) ≡ tokens_left end
left_below end more =
    sum_ends (above_streams end.log) more (tokens_on end) (none_beyond end)

-- Where on no stream more waits, no more waits.
pub none_more_left : (before after : EndLog)
    → ((i : ℕ) → tokens_on after i ≤ tokens_on before i) → tokens_left after ≤ tokens_left before
none_more_left before after less =
    let one = above_streams before.log in
    let other = above_streams after.log in
    let sums = sum_less (one + other) (tokens_on before) (tokens_on after) (λ j below. less j) in
    let all = left_below before other in
    let left = left_below after one in
    omega (
      arith,
      sums,
      all,
      left,
      ap (λ (n : ℕ). sum_below n (tokens_on before))
          (swapped one other),
    )
  where
    swapped : (a b : ℕ) → a + b ≡ b + a
    swapped a b = omega arith

-- Where so many have gone of one, so many less wait.
pub gone_left : (before after : EndLog) (id gone : ℕ) → active before.log id ≡ true
    → ((i : ℕ) → i ≢ id → tokens_on after i ≤ tokens_on before i)
    → tokens_on after id + gone ≤ tokens_on before id
    → tokens_left after + gone ≤ tokens_left before
gone_left before after id gone alive less here =
    let log = before.log in
    let one = above_streams before.log in
    let other = above_streams after.log in
    let low = block_below id _
    (active_parts log.role id log.received log.sent log.reported alive).opened in
    let sums = sum_moves (one + other) id gone 0 (tokens_on before) (tokens_on after)
    (omega (arith, low)) less (omega (arith, here)) in
    let all = left_below before other in
    let left = left_below after one in
    omega (
      arith,
      sums,
      all,
      left,
      ap (λ (n : ℕ). sum_below n (tokens_on before))
          (swapped one other),
    )
  where
    swapped : (a b : ℕ) → a + b ≡ b + a
    swapped a b = omega arith

-- After a call so many tokens less wait on a stream as it has sent there.
pub waiting_after : (end : EndLog) (act : Act) (answer : Answer) (i : ℕ)
    → length (tokens_waiting (end_after_call end act answer) i)
    ≡ length (tokens_waiting end i) - length (tokens_of_call i act answer)
waiting_after end act answer i =
    let said = tokens_said end i in
    let out = tokens_out end i in
    let call = tokens_of_call i act answer in
    let more = ap length (out_after end act answer i) in
    let sum = length-append out call in
    let before = length-drop (length out) said in
    let after = length-drop (length (tokens_out (end_after_call end act answer) i)) said in
    omega (arith, more, sum, before, after)

-- What waits on a stream where it is active, by whether it was before.
pub on_by : (now was : Bool) (left waits : ℕ) → (now ≡ true → was ≡ true)
    → (now ≡ true → left ≤ waits)
    → (if now then left else 0) ≤ (if was then waits else 0)
on_by true true left waits same less = omega (arith, less refl)
on_by true false left waits same less = absurd (both_ways false refl (same refl))
on_by false was left waits same less = omega arith

-- After a call that opens no stream no more waits on any.
pub on_after : (end : EndLog) (act : Act) (answer : Answer) (i : ℕ)
    → (active (with_call end.log act answer) i ≡ true → active end.log i ≡ true)
    → tokens_on (end_after_call end act answer) i ≤ tokens_on end i
unfolding tokens_on
on_after end act answer i stays =
    let left = waiting_after end act answer i in
    on_by (active (with_call end.log act answer) i) (active end.log i) _ _ stays
    (λ now. omega (arith, left))

-- On the stream of a call, of which so many tokens are sent at least.
pub gone_after : (end : EndLog) (act : Act) (answer : Answer) (id gone : ℕ)
    → active end.log id ≡ true → gone ≤ length (tokens_of_call id act answer)
    → gone ≤ length (tokens_waiting end id)
    → tokens_on (end_after_call end act answer) id + gone ≤ tokens_on end id
unfolding tokens_on
gone_after end act answer id gone alive sent waits =
    let left = waiting_after end act answer id in
    rw alive (by_now (active (with_call end.log act answer) id) _ _ _ left waits sent)
  where
    by_now : (now : Bool) (after before call : ℕ) → after ≡ before - call → gone ≤ before
        → gone ≤ call → (if now then after else 0) + gone ≤ before
    by_now true after before call is low less = omega (arith, is, low, less)
    by_now false after before call is low less = omega (arith, low)
