-- Integers with a prefix (RFC 7541, section 5.1).
use Rattle.std.specs.Prelude.{◌≡◌, ◌⊎◌, ℕ, zero, suc, ◌+◌, ◌-◌, ◌*◌, ◌/◌, ◌%◌, ◌^◌, ◌<◌, ◌≤◌}
use Rattle.std.specs.Prelude.{nat_lt, if◌then◌else◌, List, [], ◌∷◌, length, take}
use Rattle.std.specs.List.{AllByRecursion}
use Rattle.hpack_text.specs.declared.fault.TextFault.{TextFault}
use Rattle.hpack_text.specs.declared.fault.TextFault.TheVariants as faults

-- The number that these octets encode, seven bits each, the least significant ones first.
-- rule: HPACK 5.1 After a prefix of ones follow at most five (own) octets
abbrev pub continuation_value : List ℕ → ℕ
continuation_value [] = 0
continuation_value (octet ∷ more) = octet % 128 + 128 * continuation_value more

abbrev pub HasTopBit : ℕ → Type 0
HasTopBit octet = 128 ≤ octet

-- Continuation octets: each has its top bit set but the last.
-- rule: HPACK 5.1 After a prefix of ones follow at most five (own) octets
abbrev pub AreContinuation : List ℕ → Type 0
AreContinuation [] = ⊥
AreContinuation (last ∷ []) = last < 128
AreContinuation (octet ∷ next ∷ more) = HasTopBit octet × AreContinuation (next ∷ more)

-- the value of a prefix whose bits are all ones
abbrev pub all_ones : ℕ → ℕ
all_ones prefix = 2 ^ prefix - 1

-- The octets encode the value with a prefix of so many bits: it is the prefix, or the prefix is all
-- ones and one to five continuation octets encode what exceeds them. The bits above the prefix are
-- free.
-- rule: HPACK 5.1 A value below 2^N-1 stands in the prefix of N bits
-- rule: HPACK 5.1 After a prefix of ones follow at most five (own) octets
abbrev pub Int : ℕ → ℕ → List ℕ → Type 0
Int prefix value [] = ⊥
Int prefix value (first ∷ more) =
    ((first % 2 ^ prefix < all_ones prefix) × (more ≡ []) × (value ≡ first % 2 ^ prefix))
    ⊎ ((first % 2 ^ prefix ≡ all_ones prefix) × AreContinuation more × (length more ≤ 5)
    × (value ≡ all_ones prefix + continuation_value more))

-- The octets end inside an encoding: there are none, or the prefix is all ones, and what follows
-- it, less than five octets, all have the top bit set.
-- rule: HPACK 5.1 An integer that is cut off or too long is a fault
abbrev pub IsTruncated : ℕ → List ℕ → Type 0
IsTruncated prefix [] = Unit {0}
IsTruncated prefix (first ∷ more) =
    (first % 2 ^ prefix ≡ all_ones prefix) × AllByRecursion HasTopBit more × (length more < 5)

-- The fifth continuation octet has its top bit set.
-- rule: HPACK 5.1 An integer that is cut off or too long is a fault
abbrev pub IsTooLong : ℕ → List ℕ → Type 0
IsTooLong prefix [] = ⊥
IsTooLong prefix (first ∷ more) =
    (first % 2 ^ prefix ≡ all_ones prefix) × AllByRecursion HasTopBit (take 5 more)
    × (5 ≤ length more)

-- what a fault of reading an integer says of the octets
-- rule: HPACK 5.1 An integer that is cut off or too long is a fault
abbrev pub IntFault : ℕ → List ℕ → TextFault → Type 0
IntFault prefix octets faults.Truncated = IsTruncated prefix octets
IntFault prefix octets faults.TooLong = IsTooLong prefix octets
IntFault prefix octets faults.BadPadding = ⊥
IntFault prefix octets faults.EndSymbol = ⊥
IntFault prefix octets faults.Memory = ⊥

-- The continuation octets of a number below 128 ^ (suc more): no more of them than it needs.
-- rule: HPACK 5.1 (own) The shortest encoding of an integer is written
unfoldable pub continuation_of : ℕ → ℕ → List ℕ
continuation_of zero number = number ∷ []
continuation_of (suc more) number = if nat_lt number 128 then number ∷ []
    else (number % 128 + 128) ∷ continuation_of more (number / 128)

-- The encoding that is written, with these bits above the prefix: the shortest one. The value is
-- below 2 ^ 35.
-- rule: HPACK 5.1 (own) The shortest encoding of an integer is written
unfoldable pub integer : ℕ → ℕ → ℕ → List ℕ
integer prefix first_bits value =
    if nat_lt value (all_ones prefix) then (first_bits + value) ∷ []
    else (first_bits + all_ones prefix) ∷ continuation_of 4 (value - all_ones prefix)
