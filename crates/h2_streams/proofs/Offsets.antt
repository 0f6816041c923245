-- Windows and their differences from initial windows, as `i64` computes them.
use Rattle.h2_streams.proofs.Names.{◌≡◌, ℕ, ◌^◌, ◌<◌, false, ℤ, pos, ◌+ℤ◌, ◌-ℤ◌, arith, w64, SFits}
use Rattle.h2_streams.proofs.Names.{ints, to_z-of_z, is_far_offset, to_z, of_z}
use Rattle.h2_streams.specs.Streams.{is_far}

-- A difference that is near fits.
pub offset_fits : (offset : ℤ) → is_far_offset offset ≡ false → SFits w64 offset
offset_fits offset near = record { sfits = grind (arith, ints) }

-- A window that is near fits.
window_fits : (window : ℤ) → is_far window ≡ false → SFits w64 window
window_fits window near = record { sfits = grind (arith, ints) }

-- An initial window fits.
pub initial_fits : (initial : ℕ) → initial < 2 ^ 32 → SFits w64 (pos initial)
initial_fits initial small = record { sfits = grind (arith, ints) }

-- A difference that is near and an initial window have a sum that fits.
sum_fits : (offset : ℤ) (initial : ℕ) → is_far_offset offset ≡ false → initial < 2 ^ 32
    → SFits w64 (offset +ℤ pos initial)
sum_fits offset initial near small = record { sfits = grind (arith, ints) }

-- The difference of a window that is near from an initial window is near.
offset_near : (window : ℤ) (initial : ℕ) → is_far window ≡ false → initial < 2 ^ 32
    → is_far_offset (window -ℤ pos initial) ≡ false
offset_near window initial near small = grind (arith, ints)

-- The window with a difference from an initial window is their sum.
pub window_is : (offset : ℤ) (initial : ℕ) → is_far_offset offset ≡ false → initial < 2 ^ 32
    → to_z w64 (of_z w64 (to_z w64 (of_z w64 offset) +ℤ to_z w64 (of_z w64 (pos initial))))
    ≡ offset +ℤ pos initial
window_is offset initial near small =
    rw (
      to_z-of_z w64 offset (offset_fits offset near),
      to_z-of_z w64 (pos initial) (initial_fits initial small),
    )
    (to_z-of_z w64 (offset +ℤ pos initial) (sum_fits offset initial near small))

-- The difference of a window from an initial window is what it is.
pub offset_is : (window : ℤ) (initial : ℕ) → is_far window ≡ false → initial < 2 ^ 32
    → to_z w64 (of_z w64 (to_z w64 (of_z w64 window) -ℤ to_z w64 (of_z w64 (pos initial))))
    ≡ window -ℤ pos initial
offset_is window initial near small =
    rw (
      to_z-of_z w64 window (window_fits window near),
      to_z-of_z w64 (pos initial) (initial_fits initial small),
    )
    (to_z-of_z w64 (window -ℤ pos initial) (offset_fits (window -ℤ pos initial) (offset_near window
    initial near small)))
