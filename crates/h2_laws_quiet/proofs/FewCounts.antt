-- How many streams owe something, before and after a step.
use Rattle.std.proofs.Common.{◌≡◌, ◌≢◌, inl, inr, ℕ, zero, suc, ◌+◌, ◌≤◌, ◌<◌, ◌==◌, not, Bool}
use Rattle.std.proofs.Common.{true}
use Rattle.std.proofs.Common.{false, refl, ap, arith, if◌then◌else◌}
use Rattle.std.proofs.lemmas.Bool.{cases_Bool, cases_eq, false_from_ne_true, ne_eqb}
use Rattle.h2_spec_log.specs.Log.{Log, active, owed}
unfoldable use Rattle.h2_spec_log.specs.Log.{active_count}
unfoldable use Rattle.h2_spec_log.specs.States.{count_below}
use Rattle.h2_laws_log.proofs.ItemLists.{count_below_more}
use Rattle.h2_laws_log.proofs.ReaderStates.{active_parts}
use Rattle.h2_laws_log.proofs.StreamNumbers.{block_below}
use Rattle.h2_laws_end.proofs.OverRoom.{owed_inactive}
use Rattle.h2_laws_machine.proofs.CallOpen.{count_high}
use Rattle.h2_laws_quiet.specs.Room.{streams_owed}
use Rattle.h2_laws_quiet.specs.Work.{above_streams}

pub some_owed : (log : Log) (i : ℕ) → owed log i ≢ 0 → not (owed log i == 0) ≡ true
some_owed log i some = ap not (ne_eqb (owed log i) 0 some)

-- Where one less passes, the count is less.
pub count_fewer : (n i : ℕ) (f g : ℕ → Bool) → i < n → ((j : ℕ) → f j ≡ true → g j ≡ true)
    → g i ≡ true → f i ≡ false → count_below n f + 1 ≤ count_below n g
unfolding count_below
count_fewer zero i f g low goes was is = absurd (omega (arith, low))
count_fewer (suc n) i f g low goes was is = elim (cases_eq i n) [
  | inl same ↦
      let now : f n ≡ false = rw (← same) is in
      let before : g n ≡ true = rw (← same) was in
      let others = count_below_more n f g goes in
      rw (now, before) (omega (arith, others))
  | inr other ↦
      let others = count_fewer n i f g (omega (arith, low, other)) goes was is in
      let here = one_by (f n) (g n) (goes n) in
      omega (arith, others, here)
]
  where
    one_by : (a b : Bool) → (a ≡ true → b ≡ true)
        → (if a then 1 else 0) ≤ (if b then 1 else 0)
    one_by true b goes = rw (goes refl) (omega arith)
    one_by false b goes = omega arith

pub not_zero : (n : ℕ) → not (n == 0) ≡ true → n ≢ 0
not_zero zero some is = cc
not_zero (suc n) some is = cc

-- Streams that owe something are below the numbers of all that an end has used.
pub owed_low : (log : Log) (i : ℕ) → owed log i ≢ 0 → i < above_streams log
owed_low log i some = elim (cases_Bool (active log i)) [
  | inl alive ↦
      let low = block_below i _
      (active_parts log.role i log.received log.sent log.reported alive).opened in
      omega (arith, low)
  | inr over ↦ absurd (some (owed_inactive log i over))
]

-- Numbers of streams that owe something, below a greater number.
owed_high : (log : Log) (more : ℕ)
    → count_below (more + above_streams log) (λ j. not (owed log j == 0)) ≡ streams_owed log
owed_high log more =
    count_high more (above_streams log) (λ j. not (owed log j == 0)) (λ j above.
    false_from_ne_true _ (λ some.
    let low = owed_low log j (not_zero (owed log j) some) in
    omega (arith, low, above)))

-- One more passes at most.
one_more : (n id : ℕ) (f g : ℕ → Bool) → ((j : ℕ) → j ≢ id → f j ≡ true → g j ≡ true)
    → count_below n f ≤ count_below n g + 1
unfolding count_below
one_more zero id f g goes = omega arith
one_more (suc n) id f g goes = elim (cases_eq n id) [
  | inl same ↦
      let others = below_more n f g (λ j low. goes j (λ is. omega (arith, is, same, low))) in
      omega (arith, others, at_most (f n))
  | inr other ↦ omega (arith, one_more n id f g goes, one_by (f n) (g n) (goes n other))
]
  where
    one_by : (a b : Bool) → (a ≡ true → b ≡ true)
        → (if a then 1 else 0) ≤ (if b then 1 else 0)
    one_by true b goes = rw (goes refl) (omega arith)
    one_by false b goes = omega arith

    at_most : (a : Bool) → (if a then 1 else 0) ≤ 1
    at_most true = omega arith
    at_most false = omega arith

    below_more : (m : ℕ) (f g : ℕ → Bool) → ((j : ℕ) → j < m → f j ≡ true → g j ≡ true)
        → count_below m f ≤ count_below m g
    below_more zero f g goes = omega arith
    below_more (suc m) f g goes =
        omega (
          arith,
          below_more m f g (λ j low. goes j (omega (arith, low))),
          one_by (f m) (g m) (goes m (omega arith)),
        )

swapped : (a b : ℕ) (f : ℕ → Bool) → count_below (a + b) f ≡ count_below (b + a) f
swapped a b f = ap (λ (n : ℕ). count_below n f) (both a b)
  where
    both : (m n : ℕ) → m + n ≡ n + m
    both m n = omega arith

module _ (before after : Log) where
  -- Streams that owe something after a step: those before it,
  pub owed_no_more : ((j : ℕ) → owed before j ≡ 0 → owed after j ≡ 0)
      → streams_owed after ≤ streams_owed before
  owed_no_more none =
      let one = above_streams before in
      let other = above_streams after in
      let all = count_below_more (one + other) (λ j. not (owed after j == 0))
      (λ j. not (owed before j == 0)) (λ j goes. some_owed before j (λ is.
      not_zero (owed after j) goes (none j is))) in
      omega (
        arith,
        all,
        owed_high after one,
        owed_high before other,
        swapped one other (λ j. not (owed before j == 0)),
      )

  -- without one that owes nothing any more,
  pub owed_fewer : (id : ℕ) → ((j : ℕ) → owed before j ≡ 0 → owed after j ≡ 0)
      → owed before id ≢ 0 → owed after id ≡ 0 → streams_owed after + 1 ≤ streams_owed before
  owed_fewer id none some over =
      let one = above_streams before in
      let other = above_streams after in
      let low = owed_low before id some in
      let all = count_fewer (one + other) id (λ j. not (owed after j == 0))
      (λ j. not (owed before j == 0)) (omega (arith, low)) (λ j goes. some_owed before j (λ is.
      not_zero (owed after j) goes (none j is))) (some_owed before id some)
      (ap (λ (n : ℕ). not (n == 0)) over) in
      omega (
        arith,
        all,
        owed_high after one,
        owed_high before other,
        swapped one other (λ j. not (owed before j == 0)),
      )

  -- and one more.
  pub owed_one_more : (id : ℕ) → ((j : ℕ) → j ≢ id → owed before j ≡ 0 → owed after j ≡ 0)
      → streams_owed after ≤ streams_owed before + 1
  owed_one_more id none =
      let one = above_streams before in
      let other = above_streams after in
      let all = one_more (one + other) id (λ j. not (owed after j == 0))
      (λ j. not (owed before j == 0)) (λ j apart goes. some_owed before j (λ is.
      not_zero (owed after j) goes (none j apart is))) in
      omega (
        arith,
        all,
        owed_high after one,
        owed_high before other,
        swapped one other (λ j. not (owed before j == 0)),
      )

-- These streams are active.
pub owed_active_few : (log : Log) → streams_owed log ≤ active_count log
unfolding active_count
owed_active_few log =
    count_below_more (above_streams log) (λ j. not (owed log j == 0)) (active log) (λ j goes.
    elim (cases_Bool (active log j)) [
      | inl alive ↦ alive
      | inr over ↦ absurd (not_zero (owed log j) goes (owed_inactive log j over))
    ])

-- Where nothing is owed there is none.
pub none_owing : (log : Log) → ((i : ℕ) → owed log i ≡ 0) → streams_owed log ≡ 0
unfolding count_below
none_owing log none =
    nothing (above_streams log) (λ j. not (owed log j == 0))
    (λ j. ap (λ (n : ℕ). not (n == 0)) (none j))
  where
    nothing : (n : ℕ) (f : ℕ → Bool) → ((j : ℕ) → f j ≡ false) → count_below n f ≡ 0
    nothing zero f over = refl
    nothing (suc n) f over = rw (over n) (omega (arith, nothing n f over))
