-- What holds of all of a list holds of its parts; and what is in a list.
use Rattle.h2_laws_pair.proofs.Names.{◌≡◌, ◌⊎◌, inl, inr, List, [], ◌∷◌, ◌++◌, refl, arith, Bool}
use Rattle.h2_laws_pair.proofs.Names.{true, false, AllByRecursion, Contains, list_any, both_ways}
use Rattle.h2_laws_pair.proofs.Names.{or_cases}
use Rattle.std.proofs.lemmas.List.Elements.{Contains-append_cases, Contains-append_right}
use Rattle.std.proofs.lemmas.List.Elements.{Contains-push_cases, All-contains, All-from_recursion}

-- Nothing is in no list.
pub none_in : {X : Type 0} (x : X) → Contains [] x → ⊥
none_in x (k, below, is) = absurd (omega (arith, below))

-- What is in a list of one is that one.
pub one_in : {X : Type 0} (first x : X) → Contains (first ∷ []) x → first ≡ x
one_in first x here = elim (Contains-push_cases [] first x here) [
  | inl wrong ↦ absurd (none_in x wrong)
  | inr is ↦ is
]

-- What is in a list is its first, or in the others.
pub first_or_later : {X : Type 0} (first : X) (others : List X) (x : X)
    → Contains (first ∷ others) x → (first ≡ x) ⊎ Contains others x
first_or_later first others x here = elim (Contains-append_cases (first ∷ []) others x here) [
  | inl one ↦ inl (one_in first x one)
  | inr after ↦ inr after
]

-- The first is in a list.
pub first_in : {X : Type 0} (first : X) (others : List X) → Contains (first ∷ others) first
first_in first others = (0, omega arith, refl)

-- Others are too.
pub later_in : {X : Type 0} (first : X) (others : List X) (x : X) → Contains others x
    → Contains (first ∷ others) x
later_in first others x here = Contains-append_right (first ∷ []) others x here

-- What holds of all of two lists holds of all of both.
pub all_both : {X : Type 0} (P : X → Type 0) (one other : List X) → AllByRecursion P one
    → AllByRecursion P other → AllByRecursion P (one ++ other)
all_both P [] other here there = there
all_both P (x ∷ one) other here there = (here.0, all_both P one other here.1 there)

-- What holds of all of both holds of all of the first, and of all of the second.
pub all_newer : {X : Type 0} (P : X → Type 0) (newer older : List X)
    → AllByRecursion P (newer ++ older) → AllByRecursion P newer
all_newer P [] older all = tt
all_newer P (x ∷ newer) older all = (all.0, all_newer P newer older all.1)

pub all_older : {X : Type 0} (P : X → Type 0) (newer older : List X)
    → AllByRecursion P (newer ++ older) → AllByRecursion P older
all_older P [] older all = all
all_older P (x ∷ newer) older all = all_older P newer older all.1

-- What follows from one property holds of all, where that does.
pub all_mapped : {X : Type 0} (P Q : X → Type 0) (xs : List X) → ((x : X) → P x → Q x)
    → AllByRecursion P xs → AllByRecursion Q xs
all_mapped P Q [] follows all = tt
all_mapped P Q (x ∷ xs) follows all = (follows x all.0, all_mapped P Q xs follows all.1)

-- What holds of all of a list holds of what is in it.
pub one_of_all : {X : Type 0} (P : X → Type 0) (xs : List X) (x : X) → AllByRecursion P xs
    → Contains xs x → P x
one_of_all P xs x all here = All-contains P xs x (All-from_recursion P xs all) here

-- Where a test passes in a list, something that passes it is there.
pub found : {X : Type 0} (p : X → Bool) (xs : List X) → list_any p xs ≡ true
    → (x : X) × Contains xs x × (p x ≡ true)
found p [] here = absurd (both_ways false refl here)
found p (x ∷ xs) here = elim (or_cases (p x) (list_any p xs) here) [
  | inl now ↦ (x, first_in x xs, now)
  | inr later ↦
      let there = found p xs later in (there.0, later_in x xs there.0 there.1, there.2)
]
