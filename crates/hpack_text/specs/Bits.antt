-- Numbers and octets as bits, the most significant first.
use Rattle.std.specs.Prelude.{ℕ, zero, suc, ◌+◌, ◌/◌, ◌%◌, ◌^◌, ◌<◌, ◌==◌, Bool, List, [], ◌∷◌}
use Rattle.std.specs.Prelude.{◌++◌, length, if◌then◌else◌}
use Rattle.std.specs.List.{flat_map}

-- a number of eight bits
abbrev pub IsOctet : ℕ → Type 0
IsOctet octet = octet < 256

abbrev pub is_odd : ℕ → Bool
is_odd value = value % 2 == 1

-- the lowest n bits of a number
unfoldable pub bits_of : ℕ → ℕ → List Bool
bits_of zero value = []
bits_of (suc n) value = bits_of n (value / 2) ++ is_odd value ∷ []

-- the bits of octets, one octet after another
abbrev pub bits : List ℕ → List Bool
bits octets = flat_map (bits_of 8) octets

-- the number that these bits are
unfoldable pub number_of_bits : List Bool → ℕ
number_of_bits [] = 0
number_of_bits (bit ∷ more) = (if bit then 2 ^ length more else 0) + number_of_bits more

-- the octets that these bits are, eight bits each
unfoldable pub octets_of_bits : List Bool → List ℕ
octets_of_bits (a ∷ b ∷ c ∷ d ∷ e ∷ f ∷ g ∷ h ∷ more) =
    number_of_bits (a ∷ b ∷ c ∷ d ∷ e ∷ f ∷ g ∷ h ∷ []) ∷ octets_of_bits more
octets_of_bits _ = []
