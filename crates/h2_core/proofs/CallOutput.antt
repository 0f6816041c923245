-- The octets that calls add to the output.
use Rattle.h2_core.proofs.Names.{◌≡◌, ℕ, ◌+◌, ◌-◌, ◌*◌, ◌/◌, ◌≤◌, Bool, List, [], ◌∷◌, length, refl}
use Rattle.h2_core.proofs.Names.{arith, Field, EncoderState, list_size, block_of, Frame}
use Rattle.h2_core.proofs.Names.{encoding_of, alone, block, End, encoding_of_item}
use Rattle.h2_core.proofs.Names.{encoding_of_items}
use Rattle.std.proofs.Math.Nat.{div-mul-le_self, mul-le-mul_left}
use Rattle.std.proofs.lemmas.Nat.{le-div}
use Rattle.hpack.proofs.RoomLemmas.{block_short, most_octets-list_size}
use Rattle.h2_block.proofs.SpreadLengths.{length-spread_frames}
use Rattle.h2_block.specs.Spread.{spread_frames, encoding_of_frames}
use Rattle.h2_core.proofs.Names.{rules}

-- the octets of one block
pub octets_of_block : (most id : ℕ) (end : Bool) (octets : List ℕ)
    → encoding_of_items most (block id end octets ∷ [])
    ≡ encoding_of_frames (spread_frames most id end octets)
unfolding encoding_of_items encoding_of_item
octets_of_block most id end octets = refl

-- A smaller number has no greater quotient, by a number that is no smaller.
quotient_below : (a b m n : ℕ) → a ≤ b → n ≤ m → 1 ≤ n → a / m ≤ b / n
quotient_below a b m n below least positive = search rules

-- The octets of a block, by the size of its list.
pub block_within : (state : EncoderState) (fields : List Field)
    → length (block_of state fields) ≤ list_size fields + 12
block_within state fields =
    omega (arith, block_short state fields, most_octets-list_size fields)

-- The frames of a block have no more octets than there is room for, with any greatest payload of
-- 16,384 octets or more.
pub frames_within : (most id : ℕ) (end : Bool) (octets : List ℕ) (count : ℕ) → 16384 ≤ most
    → length octets ≤ count
    → length (encoding_of_frames (spread_frames most id end octets))
    ≤ count + 9 * (1 + count / 16384)
frames_within most id end octets count least within =
    let fewer = quotient_below (length octets - 1) count most 16384 (omega arith) least
    (omega arith) in
    omega (arith, length-spread_frames most id end octets (omega arith), fewer)
