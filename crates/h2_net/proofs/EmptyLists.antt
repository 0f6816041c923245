-- Whether a list is empty, and what its length says of that.
use Rattle.std.proofs.Common.{◌≡◌, ◌≢◌, ℕ, Bool, true, false, ◌==◌, List, [], ◌∷◌, length, arith}
use Rattle.std.proofs.Common.{refl}
use Rattle.std.proofs.lemmas.Bool.Decides.{nat_tests}

-- A list of length 0 is empty.
pub is_empty : (xs : List ℕ) (test : Bool) → test ≡ (length xs == 0) → test ≡ true → xs ≡ []
is_empty [] test is holds = refl
is_empty (x ∷ xs) test is holds = absurd (grind (arith, nat_tests))

-- A list of another length is not.
pub is_some : (xs : List ℕ) (test : Bool) → test ≡ (length xs == 0) → test ≡ false → xs ≢ []
is_some [] test is fails = absurd (cc)
is_some (x ∷ xs) test is fails = λ empty. cc
