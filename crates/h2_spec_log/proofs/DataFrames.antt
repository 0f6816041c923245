-- The DATA frames of a body, one by one.
use Rattle.std.proofs.Common.{◌≡◌, ℕ, true, false, List, [], ◌∷◌, ◌++◌, take, drop, None, refl}
use Rattle.h2_spec_log.proofs.Names.{suc, ◌<◌, ◌≤◌, nat_le, Bool, length, arith, nat_tests, Data}
use Rattle.h2_spec_log.proofs.Names.{alone, data_frames}

-- a full frame, and the others after it
pub frames_more : (count most id : ℕ) (octets : List ℕ) (end : Bool) → most < length octets
    → data_frames (suc count) most id octets end ≡ data_frames count most id (drop most octets) end
    ++ alone (Data id false (take most octets) None) ∷ []
unfolding data_frames
frames_more count most id octets end long =
    let test : nat_le (length octets) most ≡ false = grind (arith, nat_tests) in
    rw test refl

-- the last one
pub frames_last : (count most id : ℕ) (octets : List ℕ) (end : Bool) → length octets ≤ most
    → data_frames (suc count) most id octets end ≡ alone (Data id end octets None) ∷ []
unfolding data_frames
frames_last count most id octets end short =
    let test : nat_le (length octets) most ≡ true = grind (arith, nat_tests) in
    rw test refl
