-- Sums over numbers of streams.
use Rattle.std.specs.Prelude.{ℕ, zero, suc, ◌+◌}

-- the sum of a number for each number below a bound
unfoldable pub sum_below : ℕ → (ℕ → ℕ) → ℕ
sum_below zero f = 0
sum_below (suc n) f = f n + sum_below n f
