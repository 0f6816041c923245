-- The continuation octets of an integer (RFC 7541, section 5.1), as they are read.
use Rattle.std.specs.Prelude.{◌≡◌, ℕ, ◌^◌, ◌<◌, ◌≤◌, List, length, take}
use Rattle.std.specs.List.{AllByRecursion}
use Rattle.hpack_text.specs.declared.fault.TextFault.{TextFault}
use Rattle.hpack_text.specs.declared.fault.TextFault.TheVariants as faults
use Rattle.hpack_text.specs.Integers.{HasTopBit, AreContinuation, continuation_value}

-- The first so many octets are continuation octets of the value.
pub record HasContinuation (octets : List ℕ) (value count : ℕ) : Type 0 where
  pub within : count ≤ length octets
  pub few : count ≤ 5
  pub small : value < 2 ^ 35
  pub continuation : AreContinuation (take count octets)
  pub number : value ≡ continuation_value (take count octets)

-- what a fault of reading continuation octets says of them
abbrev pub ContinuationFault : List ℕ → TextFault → Type 0
ContinuationFault octets faults.Truncated = AllByRecursion HasTopBit octets × (length octets < 5)
ContinuationFault octets faults.TooLong =
    AllByRecursion HasTopBit (take 5 octets) × (5 ≤ length octets)
ContinuationFault octets faults.BadPadding = ⊥
ContinuationFault octets faults.EndSymbol = ⊥
ContinuationFault octets faults.Memory = ⊥
