-- A list of octets divided at the first of some octet.
use Rattle.std.specs.Prelude.{◌≡◌, ◌==◌, ◌<◌, ℕ, Bool, List, length, Option, MatchOption}
use Rattle.std.specs.Borrow.{Bor}
use Rattle.std.specs.List.{position_or_len, before_first, after_first}

-- whether an octet is this one
abbrev pub is_octet : (at : ℕ) → ℕ → Bool
is_octet at octet = octet == at

-- The octets are divided at the first of these, or there is none.
abbrev pub DividesAt : (at : ℕ) (octets : List ℕ) → Option (Bor (List ℕ) × Bor (List ℕ)) → Type 0
DividesAt at octets parts =
    MatchOption parts (position_or_len (is_octet at) octets ≡ length octets)
    (λ found. (position_or_len (is_octet at) octets < length octets)
    × (found.0.now ≡ before_first (is_octet at) octets)
    × (found.1.now ≡ after_first (is_octet at) octets))
