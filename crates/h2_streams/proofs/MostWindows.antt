-- A difference that no active stream's send window is above, as streams change, and what it tells.
use Rattle.h2_streams.proofs.Names.{◌≡◌, ℕ, Bool, true, false, cond, ℤ, pos, ◌+ℤ◌, List, Option}
use Rattle.h2_streams.proofs.Names.{Some, None, IfSome, refl, sym, ◌∙◌, nat_eq, arith, ints}
use Rattle.h2_streams.proofs.Names.{both_ways, active_at, is_far_offset, is_reset, IsNearKept, Kept}
use Rattle.h2_streams.proofs.Names.{StreamMap, ◌^◌, ◌<◌, w64, to_z-of_z, int_lt, ◌≤ℤ◌, to_z, of_z}
use Rattle.h2_streams.proofs.Names.{any_above, above_found, both_same, is_above_by_shift}
use Rattle.std.proofs.Common.{int_le}
use Rattle.h2_streams.proofs.Offsets.{initial_fits, offset_fits, window_is}
use Rattle.std.specs.Int.{int_max}
use Rattle.h2_spec_log.specs.Windows.{greatest_window}
use Rattle.h2_streams.specs.Table.{IsMost}
use Rattle.h2_streams.proofs.GreatestWindows.{above_by, found_low}
use Rattle.h2_streams.proofs.KeptEntries.{get_kept}
use Rattle.h2_streams.proofs.TableSteps.{streams, ChangesAt}
use Rattle.std.specs.FinMap as map

-- The greater of two that are near is near, and neither is above it.
near_by : (b : Bool) (most offset : ℤ) → is_far_offset most ≡ false → is_far_offset offset ≡ false
    → is_far_offset (cond b most offset) ≡ false
near_by true most offset near other = near
near_by false most offset near other = other

first_low : (b : Bool) (most offset : ℤ) → int_lt offset most ≡ b → most ≤ℤ cond b most offset
first_low true most offset is = omega (arith, ints)
first_low false most offset is = grind (arith, ints)

second_low : (b : Bool) (most offset : ℤ) → int_lt offset most ≡ b → offset ≤ℤ cond b most offset
second_low true most offset is = grind (arith, ints)
second_low false most offset is = omega (arith, ints)

-- What is below one is below a greater one, where another is set,
set_below : (b : Bool) (kept : Kept) (old : Option Kept) (low high : ℤ) → low ≤ℤ high
    → kept.send_offset ≤ℤ high → IfSome old (λ one. one.send_offset ≤ℤ low)
    → IfSome (cond b (Some kept) old) (λ one. one.send_offset ≤ℤ high)
set_below true kept old low high order here all = here
set_below false kept None low high order here all = tt
set_below false kept (Some one) low high order here all = grind (arith, ints)

-- and stays so where one is taken away.
left_below : (b : Bool) (old : Option Kept) (most : ℤ)
    → IfSome old (λ one. one.send_offset ≤ℤ most)
    → IfSome (cond b None old) (λ one. one.send_offset ≤ℤ most)
left_below true old most all = tt
left_below false old most all = all

set_most : (id : ℕ) (kept : Kept) (old new : List (ℕ × Kept)) (most : ℤ) → IsMost old most
    → ChangesAt id (Some kept) old new → IsNearKept kept
    → IsMost new (int_max most kept.send_offset)
set_most id kept old new most is changes near =
    let offset = kept.send_offset in
    record {
      near = near_by (int_lt offset most) most offset is.near near.0;
      below = λ q. rw (changes q) (set_below (nat_eq id q) kept (active_at q old) most
          (int_max most offset) (first_low (int_lt offset most) most offset refl)
          (second_low (int_lt offset most) most offset refl) (is.below q));
    }

pub most_set : (id : ℕ) (kept : Kept) (old new : List (ℕ × Kept)) (most result : ℤ)
    → result ≡ int_max (to_z w64 (of_z w64 most)) (to_z w64 (of_z w64 kept.send_offset))
    → IsMost old most → ChangesAt id (Some kept) old new → IsNearKept kept
    → IsMost new (to_z w64 (of_z w64 result))
most_set id kept old new most result same is changes near =
    let set = set_most id kept old new most is changes near in
    let value : result ≡ int_max most kept.send_offset =
    rw (
      to_z-of_z w64 most (offset_fits most is.near),
      to_z-of_z w64 kept.send_offset (offset_fits kept.send_offset near.0),
    ) at same in
    rw (
      value,
      to_z-of_z w64 (int_max most kept.send_offset)
          (offset_fits (int_max most kept.send_offset) set.near),
    ) set

pub most_closed : (id : ℕ) (old new : List (ℕ × Kept)) (most : ℤ) → IsMost old most
    → ChangesAt id None old new → IsMost new most
most_closed id old new most is changes =
    record {
      near = is.near;
      below = λ q. rw (changes q) (left_below (nat_eq id q) (active_at q old) most (is.below q));
    }

-- Where an initial window doesn't bring it above the greatest, it brings no window there.
too_low : (send new : ℕ) (low most : ℤ) → low ≤ℤ most
    → int_lt (pos greatest_window) (most +ℤ pos new) ≡ false
    → is_above_by_shift send new (Some (low +ℤ pos send)) ≡ false
too_low send new low most order within = grind (arith, ints)

pub is_within : (most : ℤ) (initial : ℕ) (from limit : ℤ) → is_far_offset most ≡ false
    → initial < 2 ^ 32 → from ≡ pos initial → limit ≡ pos 2147483647
    → int_le (to_z w64 (of_z w64 (to_z w64 (of_z w64 most) +ℤ to_z w64 (of_z w64 from))))
    (to_z w64 (of_z w64 limit)) ≡ true
    → int_lt (pos greatest_window) (most +ℤ pos initial) ≡ false
is_within most initial from limit near small from_is limit_is low =
    let within = rw (
      from_is,
      limit_is,
      window_is most initial near small,
      to_z-of_z w64 (pos 2147483647) (initial_fits 2147483647 (omega arith)),
    ) at low in
    grind (arith, ints)

pub none_above : (send recv new : ℕ) (entries : List (ℕ × Kept)) (numbers : List ℕ) (most : ℤ)
    → IsMost entries most → int_lt (pos greatest_window) (most +ℤ pos new) ≡ false
    → any_above send new (map.entries (streams send recv entries numbers)) ≡ false
none_above send recv new entries numbers most is within =
    let m : StreamMap = streams send recv entries numbers in
    both_same (any_above send new (map.entries m)) false
    (λ some.
    let f = above_found send new (map.entries m) (map.entries_sorted m) some in
    let k = above_by send recv new (is_reset f.i numbers) (active_at f.i entries) f.x
    (sym (get_kept send recv f.i entries numbers) ∙ map.get-entries m f.i ∙ f.found) f.above in
    let low = too_low send new k.0.send_offset most
    (found_low most (active_at f.i entries) k.0 k.1 (is.below f.i)) within in
    absurd (both_ways _ low k.2))
    (λ some. absurd (both_ways false refl some))
