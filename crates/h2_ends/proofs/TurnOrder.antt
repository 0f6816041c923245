-- The order of a pass, and that of the next one, which begins where it has ended.
use Rattle.h2_ends.proofs.Names.{◌⊎◌, inl, inr, ℕ, ◌≤◌, ◌<◌, arith}
use Rattle.h2_ends.specs.Turns.{ComesBefore}
use Rattle.h2_ends.proofs.PumpSteps.{up_to_or}
use Rattle.h2_ends.proofs.ShareSteps.{below_or}

-- A stream does not come before another one.
abbrev pub ComesLater : (turn i j : ℕ) → Type 0
ComesLater turn i j =
    ((turn ≤ j) × (j ≤ i)) ⊎ (((i < turn) × (turn ≤ j)) ⊎ ((j ≤ i) × (i < turn)))

pub before_or : (turn i j : ℕ) → ComesBefore turn i j ⊎ ComesLater turn i j
before_or turn i j = elim (up_to_or turn i) [
  | inl above ↦ elim (below_or j turn) [
    | inl under ↦ inl (inr (inl (above, under)))
    | inr over ↦ elim (up_to_or j i) [
      | inl later ↦ inr (inl (over, later))
      | inr before ↦ inl (inl (above, before))
    ]
  ]
  | inr below ↦ elim (below_or j turn) [
    | inl under ↦ elim (up_to_or j i) [
      | inl later ↦ inr (inr (inr (later, below)))
      | inr before ↦ inl (inr (inr (before, under)))
    ]
    | inr over ↦ inr (inr (inl (below, over)))
  ]
]

-- What comes before one that comes before a third one, comes before that.
pub before_both : (t i j k : ℕ) → ComesBefore t i j → ComesBefore t j k → ComesBefore t i k
before_both t i j k (inl (a, b)) (inl (c, d)) = inl (a, omega (arith, b, d))
before_both t i j k (inl (a, b)) (inr (inl (c, d))) = inr (inl (a, d))
before_both t i j k (inl (a, b)) (inr (inr (c, d))) = absurd (omega (arith, a, b, c, d))
before_both t i j k (inr (inl (a, b))) (inl (c, d)) = absurd (omega (arith, b, c))
before_both t i j k (inr (inl (a, b))) (inr (inl (c, d))) = absurd (omega (arith, b, c))
before_both t i j k (inr (inl (a, b))) (inr (inr (c, d))) = inr (inl (a, d))
before_both t i j k (inr (inr (a, b))) (inl (c, d)) = absurd (omega (arith, b, c))
before_both t i j k (inr (inr (a, b))) (inr (inl (c, d))) = absurd (omega (arith, b, c))
before_both t i j k (inr (inr (a, b))) (inr (inr (c, d))) = inr (inr (omega (arith, a, c), d))

module _ (t i j s : ℕ) where
  -- Where the pass ends at a stream that comes after two, these come in the same order in the
  -- next.
  pub both_served : ComesBefore t i j → ComesBefore t j s → ComesBefore s i j
  both_served (inl (a, b)) (inl (c, d)) = inr (inr (b, d))
  both_served (inl (a, b)) (inr (inl (c, d))) = inl (omega (arith, a, d), b)
  both_served (inl (a, b)) (inr (inr (c, d))) = absurd (omega (arith, a, b, c, d))
  both_served (inr (inl (a, b))) (inl (c, d)) = absurd (omega (arith, b, c))
  both_served (inr (inl (a, b))) (inr (inl (c, d))) = absurd (omega (arith, b, c))
  both_served (inr (inl (a, b))) (inr (inr (c, d))) = inr (inl (omega (arith, a, d), c))
  both_served (inr (inr (a, b))) (inl (c, d)) = absurd (omega (arith, b, c))
  both_served (inr (inr (a, b))) (inr (inl (c, d))) = absurd (omega (arith, b, c))
  both_served (inr (inr (a, b))) (inr (inr (c, d))) = inr (inr (a, c))

  -- So they do where neither comes before it,
  pub none_served : ComesBefore t i j → ComesLater t i s → ComesBefore s i j
  none_served (inl (a, b)) (inl (c, d)) = inl (d, b)
  none_served (inl (a, b)) (inr (inl (c, d))) = absurd (omega (arith, a, c))
  none_served (inl (a, b)) (inr (inr (c, d))) = absurd (omega (arith, a, d))
  none_served (inr (inl (a, b))) (inl (c, d)) = inr (inl (d, omega (arith, b, c)))
  none_served (inr (inl (a, b))) (inr (inl (c, d))) = absurd (omega (arith, a, c))
  none_served (inr (inl (a, b))) (inr (inr (c, d))) = absurd (omega (arith, a, d))
  none_served (inr (inr (a, b))) (inl (c, d)) = absurd (omega (arith, a, b, c, d))
  none_served (inr (inr (a, b))) (inr (inl (c, d))) = inr (inr (a, omega (arith, b, d)))
  none_served (inr (inr (a, b))) (inr (inr (c, d))) = inl (c, a)

  -- and one that does not comes before one that does.
  pub later_served : ComesBefore t j s → ComesLater t i s → ComesBefore s i j
  later_served (inl (a, b)) (inl (c, d)) = inr (inl (d, b))
  later_served (inl (a, b)) (inr (inl (c, d))) = inr (inr (omega (arith, a, c), b))
  later_served (inl (a, b)) (inr (inr (c, d))) = absurd (omega (arith, a, b, c, d))
  later_served (inr (inl (a, b))) (inl (c, d)) = absurd (omega (arith, b, c))
  later_served (inr (inl (a, b))) (inr (inl (c, d))) = absurd (omega (arith, b, d))
  later_served (inr (inl (a, b))) (inr (inr (c, d))) = inl (c, omega (arith, a, d))
  later_served (inr (inr (a, b))) (inl (c, d)) = absurd (omega (arith, b, c))
  later_served (inr (inr (a, b))) (inr (inl (c, d))) = absurd (omega (arith, b, d))
  later_served (inr (inr (a, b))) (inr (inr (c, d))) = inr (inl (c, a))
