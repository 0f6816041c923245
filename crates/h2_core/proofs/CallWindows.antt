-- Send windows that octets are taken of.
use Rattle.h2_core.proofs.Names.{◌≡◌, ℕ, ◌≤◌, false, ℤ, pos, ◌-ℤ◌, ap, ap₂, ◌∙◌, arith, ints}
use Rattle.h2_core.proofs.Names.{to_z-of_z, is_far}
use Rattle.std.proofs.Common.{negsuc}
use Rattle.std.specs.Int.RustNames.{FitsSigned}
use mir.Syntax.{w64}
use mir.Val.{to_z, of_z}
use Rattle.h2_spec_log.specs.CallRules.{at_least_none}

-- What a window lets through leaves it near zero.
pub narrowed_near : (window : ℤ) (count : ℕ) → is_far window ≡ false
    → count ≤ at_least_none window → is_far (window -ℤ pos count) ≡ false
narrowed_near (pos n) count near within = grind (arith, ints)
narrowed_near (negsuc n) count near within = grind (arith, ints)

-- the window without the octets, in 64 bits
pub narrowed_value : (window : ℤ) (count : ℕ) → is_far window ≡ false → count ≤ 65536
    → is_far (window -ℤ pos count) ≡ false
    → to_z w64 (of_z w64 (to_z w64 (of_z w64 window) -ℤ to_z w64 count)) ≡ window -ℤ pos count
narrowed_value window count near small left = grind (arith, ints)
