-- How much the places of a host hold, once one of them was written.
use Rattle.std.specs.Prelude.{◌≡◌, ◌<◌, ◌≤◌, ◌+◌, ◌∷◌, [], ℕ, zero, suc, List, length, sum_by}
use Rattle.std.specs.Prelude.{Bool, true, false, count_by, cond, Some, slice_get}
use Rattle.std.specs.Prelude.{slice_set}
use Rattle.std.proofs.Common.{refl, ap, arith}
use Rattle.std.proofs.lemmas.List.Sums.{sum_by-cons, count_by-le-length}

-- One item was written: the sum has what that counts, in place of what was there.
pub sum_written : {A : Type 0} (f : A → ℕ) (xs : List A) (i : ℕ) (x y : A)
    → slice_get xs i ≡ Some x → sum_by f (slice_set xs i y) + f x ≡ sum_by f xs + f y
sum_written f [] i x y is = cc
sum_written f (z ∷ xs) zero x y is =
    let same : z ≡ x = cc in
    let a = sum_by-cons f y xs in
    let b = sum_by-cons f z xs in
    let c = ap f same in omega (arith, a, b, c)
sum_written f (z ∷ xs) (suc i) x y is =
    let a = sum_by-cons f z (slice_set xs i y) in
    let b = sum_by-cons f z xs in
    let c = sum_written f xs i x y is in omega (arith, a, b, c)

-- No item counts more than the sum.
pub item_within : {A : Type 0} (f : A → ℕ) (xs : List A) (i : ℕ) (x : A) → slice_get xs i ≡ Some x
    → f x ≤ sum_by f xs
item_within f [] i x is = absurd (let never = is in cc)
item_within f (z ∷ xs) zero x is =
    let same : z ≡ x = cc in
    let b = sum_by-cons f z xs in
    let c = ap f same in omega (arith, b, c)
item_within f (z ∷ xs) (suc i) x is =
    let b = sum_by-cons f z xs in
    let c = item_within f xs i x is in omega (arith, b, c)

-- Where no item counts anything the sum is 0.
pub sum_of_nothing : {A : Type 0} (f : A → ℕ) (xs : List A)
    → ((i : ℕ) (x : A) → slice_get xs i ≡ Some x → f x ≤ 0) → sum_by f xs ≡ 0
sum_of_nothing f [] none = refl
sum_of_nothing f (z ∷ xs) none =
    let b = sum_by-cons f z xs in
    let one = none 0 z refl in
    let rest = sum_of_nothing f xs (λ i x is. none (suc i) x is) in omega (arith, b, one, rest)

-- One item that passes the test was added.
pub count_more : {A : Type 0} (p : A → Bool) (xs : List A) (i : ℕ) (x y : A)
    → slice_get xs i ≡ Some x → p x ≡ false → p y ≡ true
    → count_by p (slice_set xs i y) ≡ count_by p xs + 1
count_more p xs i x y is never does =
    let sum = sum_written (λ z. cond (p z) 1 0) xs i x y is in
    let a = ap {B = ℕ} (λ b. cond b 1 0) never in
    let b = ap {B = ℕ} (λ b. cond b 1 0) does in omega (arith, sum, a, b)

-- One that passes it was taken away.
pub count_less : {A : Type 0} (p : A → Bool) (xs : List A) (i : ℕ) (x y : A)
    → slice_get xs i ≡ Some x → p x ≡ true → p y ≡ false
    → count_by p xs ≡ count_by p (slice_set xs i y) + 1
count_less p xs i x y is does never =
    let sum = sum_written (λ z. cond (p z) 1 0) xs i x y is in
    let a = ap {B = ℕ} (λ b. cond b 1 0) never in
    let b = ap {B = ℕ} (λ b. cond b 1 0) does in omega (arith, sum, a, b)

-- One was written that passes the test just where the one before it did.
pub count_same : {A : Type 0} (p : A → Bool) (xs : List A) (i : ℕ) (x y : A)
    → slice_get xs i ≡ Some x → p y ≡ p x → count_by p (slice_set xs i y) ≡ count_by p xs
count_same p xs i x y is same =
    let sum = sum_written (λ z. cond (p z) 1 0) xs i x y is in
    let a = ap {B = ℕ} (λ b. cond b 1 0) same in omega (arith, sum, a)

-- A test counts one at most.
one_at_most : (b : Bool) → cond b 1 0 ≤ 1
one_at_most true = omega arith
one_at_most false = omega arith

-- Fewer pass the test than there are, where one doesn't.
pub count_below : {A : Type 0} (p : A → Bool) (xs : List A) (i : ℕ) (x : A)
    → slice_get xs i ≡ Some x → p x ≡ false → count_by p xs < length xs
count_below p [] i x is never = absurd (let none = is in cc)
count_below p (z ∷ xs) zero x is never =
    let same : z ≡ x = cc in
    let b = sum_by-cons (λ y. cond (p y) 1 0) z xs in
    let c = ap {B = ℕ} (λ y. cond (p y) 1 0) same in
    let d = ap {B = ℕ} (λ y. cond y 1 0) never in
    let e = count_by-le-length p xs in
    omega (arith, b, c, d, e)
count_below p (z ∷ xs) (suc i) x is never =
    let b = sum_by-cons (λ y. cond (p y) 1 0) z xs in
    let c = count_below p xs i x is never in
    let e = one_at_most (p z) in omega (arith, b, c, e)
