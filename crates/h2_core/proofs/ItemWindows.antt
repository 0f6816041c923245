-- Windows of streams in the numbers that the code keeps them in: what is near zero doesn't wrap.
use Rattle.h2_core.proofs.Names.{◌≡◌, ℕ, ◌<◌, ◌^◌, Bool, false, ℤ, pos, ◌+ℤ◌, ◌-ℤ◌, arith}
use Rattle.h2_core.proofs.Names.{nat_tests, ints, greatest_window, overflows_by, exceeds, is_far}
use Rattle.h2_core.proofs.Names.{true, ◌≤◌}
use lib.Signed.{mag}
use Rattle.std.proofs.Common.{int_lt, FitsSigned, to_z, of_z, w64}

-- A window is itself.
pub kept_is : (window : ℤ) → is_far window ≡ false → to_z w64 (of_z w64 window) ≡ window
kept_is window near = grind (arith, ints)

-- An increment of a window fits.
pub widened_fits : (window more : ℤ) (increment : ℕ) → is_far window ≡ false
    → more ≡ pos increment → increment < 2 ^ 31
    → FitsSigned w64 (to_z w64 (of_z w64 window) +ℤ to_z w64 (of_z w64 more))
widened_fits window more increment near is small = grind (arith, ints)

-- Its sum is the window with the increment.
pub widened_is : (window more : ℤ) (increment : ℕ) → is_far window ≡ false
    → more ≡ pos increment → increment < 2 ^ 31
    → to_z w64 (of_z w64 (to_z w64 (of_z w64 window) +ℤ to_z w64 (of_z w64 more)))
    ≡ window +ℤ pos increment
widened_is window more increment near is small = grind (arith, ints)

-- The sum is near zero where it isn't above the greatest window.
pub widened_near : (window : ℤ) (increment : ℕ) → is_far window ≡ false
    → int_lt (pos greatest_window) (window +ℤ pos increment) ≡ false
    → is_far (window +ℤ pos increment) ≡ false
widened_near window increment near few = grind (arith, ints)

-- The greatest window is itself.
pub limit_is : (limit : ℤ) → limit ≡ pos greatest_window
    → to_z w64 (of_z w64 limit) ≡ pos greatest_window
limit_is limit is = grind (arith, ints)

-- The code's test is whether the increment brings the window above the greatest.
pub passes_as : (window more limit : ℤ) (increment : ℕ) (passes : Bool) → is_far window ≡ false
    → more ≡ pos increment → increment < 2 ^ 31 → limit ≡ pos greatest_window
    → int_lt (to_z w64 (of_z w64 limit)) (to_z w64 (of_z w64 (to_z w64 (of_z w64 window)
    +ℤ to_z w64 (of_z w64 more)))) ≡ passes
    → overflows_by increment window ≡ passes
passes_as window more limit increment passes near is small greatest test =
    rw (limit_is limit greatest, widened_is window more increment near is small) at test

-- What is taken of a window, and doesn't exceed it, fits.
pub narrowed_fits : (window less : ℤ) (flow : ℕ) → is_far window ≡ false → less ≡ pos flow
    → exceeds flow window ≡ false
    → FitsSigned w64 (to_z w64 (of_z w64 window) -ℤ to_z w64 (of_z w64 less))
narrowed_fits window less flow near is within = grind (arith, ints, nat_tests)

pub narrowed_is : (window less : ℤ) (flow : ℕ) → is_far window ≡ false → less ≡ pos flow
    → flow < 2 ^ 32
    → to_z w64 (of_z w64 (to_z w64 (of_z w64 window) -ℤ to_z w64 (of_z w64 less)))
    ≡ window -ℤ pos flow
narrowed_is window less flow near is small = grind (arith, ints)

-- The difference is near zero.
pub narrowed_near : (window : ℤ) (flow : ℕ) → is_far window ≡ false
    → exceeds flow window ≡ false → is_far (window -ℤ pos flow) ≡ false
narrowed_near window flow near within = grind (arith, ints, nat_tests)

-- Whether DATA exceeds a window, by the two questions that are asked.
pub exceeds_asked : (flow : ℕ) (window from : ℤ) → is_far window ≡ false → from ≡ pos flow
    → mag from < 2 ^ 63 → 0 < flow
    → int_lt (to_z w64 (of_z w64 window)) (to_z w64 (of_z w64 from)) ≡ true
    → exceeds flow window ≡ true
exceeds_asked flow window from near is fits some below =
    let small : flow < 2 ^ 63 = rw is at fits in grind (arith, ints, nat_tests)

pub within_asked : (flow : ℕ) (window from : ℤ) → is_far window ≡ false → from ≡ pos flow
    → mag from < 2 ^ 63 → int_lt (to_z w64 (of_z w64 window)) (to_z w64 (of_z w64 from)) ≡ false
    → exceeds flow window ≡ false
within_asked flow window from near is fits above =
    let small : flow < 2 ^ 63 = rw is at fits in grind (arith, ints, nat_tests)

pub none_exceeds : (flow : ℕ) (window : ℤ) → flow ≤ 0 → exceeds flow window ≡ false
none_exceeds flow window none = grind (arith, nat_tests)
