-- The pairs of SETTINGS: 16 bits of identifier and 32 of value each (RFC 9113, section 6.5.1).
use Rattle.std.specs.Prelude.{ℕ, zero, suc, ◌/◌, List, [], ◌∷◌, length, drop}
use Rattle.byteorder.specs.Endian.{big_number}
use Rattle.h2_frame.specs.declared.pairs.Pairs.{Pairs}
use Rattle.h2_frame.specs.declared.pairs.PairIter.{PairIter}

-- the pair in the first six octets
-- rule: 6.5.1 The pairs are 16 bits of identifier and 32 of value, in order
abbrev pub first_pair : List ℕ → ℕ × ℕ
first_pair octets = (big_number 2 octets, big_number 4 (drop 2 octets))

-- the pairs in the first octets, so many of them
unfoldable pub pairs_in : ℕ → List ℕ → List (ℕ × ℕ)
pairs_in zero octets = []
pairs_in (suc count) octets = first_pair octets ∷ pairs_in count (drop 6 octets)

-- the pairs in these octets, in order; less than six octets are none
-- rule: 6.5.1 The pairs are 16 bits of identifier and 32 of value, in order
abbrev pub pairs_of : List ℕ → List (ℕ × ℕ)
pairs_of octets = pairs_in (length octets / 6) octets

-- the pairs that are lent
abbrev pub lent_pairs : Pairs → List (ℕ × ℕ)
lent_pairs pairs = pairs_of pairs.octets.now

-- the pairs that an iterator has still to yield
abbrev pub pairs_left : PairIter → List (ℕ × ℕ)
pairs_left iterator = pairs_of iterator.octets.now
