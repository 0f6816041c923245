-- What was appended to a list of octets.
use Rattle.std.specs.Prelude.{◌≡◌, ℕ, ◌≤◌, Bool, true, List, ◌++◌, replicate}
use Rattle.std.specs.List.{AllByRecursion}
use Rattle.hpack_text.specs.Bits.{IsOctet, bits}

-- Octets were appended, or none.
abbrev pub IsExtended : List ℕ → List ℕ → Type 0
IsExtended old new = (added : List ℕ) × (new ≡ old ++ added)

-- The octets that were appended are the bits, but for those that are left.
pub record Appends (old new : List ℕ) (bit_list left : List Bool) : Type 0 where
  pub added : List ℕ
  pub joined : new ≡ old ++ added
  pub octets : AllByRecursion IsOctet added
  pub encoded : bit_list ≡ bits added ++ left

-- The octets that were appended are the bits, and at most seven ones after them.
pub record AppendsPadded (old new : List ℕ) (bit_list : List Bool) : Type 0 where
  pub added : List ℕ
  pub joined : new ≡ old ++ added
  pub octets : AllByRecursion IsOctet added
  pub padding : ℕ
  pub short : padding ≤ 7
  pub encoded : bits added ≡ bit_list ++ replicate padding true
