-- Where the first of some octet stands.
use Rattle.std.proofs.Common.{◌≡◌, ℕ, ◌<◌, ◌+◌, ◌-◌, Bool, true, false, cond, List, length, take}
use Rattle.std.proofs.Common.{drop, Some, None, refl, sym, ltb, not, arith}
use Rattle.std.proofs.lemmas.List.{take_rest}
use Rattle.std.proofs.lemmas.List.Sums.{prefix_len-le-length}
use borrow.Author.Tests.{ltb-true, ltb-false}
use Rattle.std.specs.List.{position_or_len, position, before_first, after_first}

-- A place that is chosen by a test is chosen where it holds.
chosen : (test : Bool) (n i : ℕ) → cond test (Some n) None ≡ Some i → (test ≡ true) × (n ≡ i)
chosen true n i e = (refl, cc)
chosen false n i e = (cc, cc)

-- Where none is chosen the test fails.
not_chosen : (test : Bool) (n : ℕ) → cond test (Some n) None ≡ None → test ≡ false
not_chosen true n e = cc
not_chosen false n e = refl

-- No element passes: the place is the length.
pub none_passes : {X : Type 0} (p : X → Bool) (xs : List X) → position p xs ≡ None
    → position_or_len p xs ≡ length xs
none_passes p xs none =
    let fails : ltb (position_or_len p xs) (length xs) ≡ false = not_chosen _ _ none in
    omega (arith, prefix_len-le-length (λ x. not (p x)) xs, ltb-false _ _ fails)

-- The first element that passes stands before the end, and divides the list.
pub divides_at : {X : Type 0} (p : X → Bool) (xs : List X) (i : ℕ) → position p xs ≡ Some i
    → (position_or_len p xs < length xs) × (take i xs ≡ before_first p xs)
    × (take (length xs - (i + 1)) (drop (i + 1) xs) ≡ after_first p xs)
divides_at p xs i found =
    let parts = chosen _ _ i found in
    let within : position_or_len p xs < length xs = ltb-true _ _ parts.0 in
    (within, rw (sym parts.1) refl, rw (sym parts.1) (take_rest xs (position_or_len p xs + 1)))
