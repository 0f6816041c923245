-- Worked examples of the definitions, each with a neighbour that is wrong.
use Rattle.std.specs.Prelude.{◌≡◌, ℕ, if◌then◌else◌, nat_le}
use Rattle.std.proofs.Common.{refl}
use Rattle.h2_hosting.specs.Guests.{lacking_of}

-- A connection has 65,535 octets of its window from the first.
lacks_the_rest :
    (lacking_of 65535 ≡ 0) × (lacking_of 65536 ≡ 1) × (lacking_of 1048576 ≡ 983041)
lacks_the_rest = (refl, refl, refl)

-- what a connection takes of a window of 1,048,576 octets, if so many octets are left
share_left : (left : ℕ) → ℕ
share_left left = if nat_le (lacking_of 1048576) left then lacking_of 1048576 else 0

-- If one octet less is left than it lacks, it takes none.
all_or_none :
    (share_left 983041 ≡ 983041) × (share_left 983040 ≡ 0) × (share_left 2000000 ≡ 983041)
unfolding share_left
all_or_none = (refl, refl, refl)
