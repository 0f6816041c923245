-- The pairs of SETTINGS, one after another.
use Rattle.std.proofs.Common.{◌≡◌, ℕ, zero, suc, ◌/◌, ◌<◌, ◌≤◌, List, [], ◌∷◌, length, drop, refl}
use Rattle.std.proofs.Common.{ap, arith, length-drop}
use Rattle.h2_frame.specs.Pairs.{first_pair, pairs_in, pairs_of}

-- so many pairs are so many
pub length-pairs_in : (count : ℕ) (octets : List ℕ) → length (pairs_in count octets) ≡ count
unfolding pairs_in
length-pairs_in zero octets = refl
length-pairs_in (suc count) octets = ap suc (length-pairs_in count (drop 6 octets))

-- fewer than six octets are no pair
pub pairs_of-none : (octets : List ℕ) → length octets < 6 → pairs_of octets ≡ []
unfolding pairs_in
pairs_of-none octets few = let e : length octets / 6 ≡ 0 = omega arith in rw e refl

-- six octets or more begin with a pair
pub pairs_of-first : (octets : List ℕ) → 6 ≤ length octets
    → pairs_of octets ≡ first_pair octets ∷ pairs_of (drop 6 octets)
unfolding pairs_in
pairs_of-first octets enough =
    let e : length octets / 6 ≡ suc (length (drop 6 octets) / 6) = simp length-drop (omega arith) in
    rw e refl
