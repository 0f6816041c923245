-- What holds of all places below one.
use Rattle.h2_streams.proofs.Names.{◌≡◌, ℕ, ◌+◌, ◌<◌, Bool, true, false, List, Some, refl, nat_lt}
use Rattle.h2_streams.proofs.Names.{arith, slice_get, ltb-true, ltb-false}

-- What holds below a place and at it holds below the next one.
pub below_or_here : {X : Type 0} (P : X → Type 0) (n i : ℕ) (this x : X) (xs : List X)
    → ((j : ℕ) (y : X) → j < n → slice_get xs j ≡ Some y → P y)
    → slice_get xs n ≡ Some this → P this
    → i < n + 1 → slice_get xs i ≡ Some x → P x
below_or_here P n i this x xs below here holds less at = go (nat_lt i n) refl
  where
    go : (b : Bool) → nat_lt i n ≡ b → P x
    go true is = below i x (ltb-true i n is) at
    go false is =
        let same : i ≡ n = omega (arith, ltb-false i n is, less) in
        let one : this ≡ x = cc in
        rw (← one) holds
