-- The peaks of a queue of numbers: those that no number after them exceeds. The first of them is the
-- greatest of all.
use Rattle.std.specs.Prelude.{ℕ, nat_le, nat_lt, ◌==◌, max, Bool, false, if◌then◌else◌, List, []}
use Rattle.std.specs.Prelude.{◌∷◌}

-- the peaks with a number before all others
abbrev pub with_peak : (number : ℕ) → (peaks : List ℕ) → List ℕ
with_peak number [] = number ∷ []
with_peak number (peak ∷ peaks) =
    if nat_le peak number then number ∷ peak ∷ peaks else peak ∷ peaks

-- the peaks of numbers
abbrev pub peaks_of : List ℕ → List ℕ
peaks_of [] = []
peaks_of (number ∷ numbers) = with_peak number (peaks_of numbers)

-- the greatest of numbers and of `most`
abbrev pub greatest_of : (most : ℕ) → List ℕ → ℕ
greatest_of most [] = most
greatest_of most (number ∷ numbers) = greatest_of (max most number) numbers

-- whether the last peak, where there is one, is below a number
abbrev pub ends_below : (number : ℕ) → (peaks : List ℕ) → Bool
ends_below number [] = false
ends_below number (peak ∷ []) = nat_lt peak number
ends_below number (peak ∷ next ∷ peaks) = ends_below number (next ∷ peaks)

-- whether a number is the first peak
abbrev pub is_first : (number : ℕ) → (peaks : List ℕ) → Bool
is_first number [] = false
is_first number (peak ∷ peaks) = peak == number
