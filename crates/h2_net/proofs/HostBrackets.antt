-- What of a host stands in brackets.
use Rattle.std.proofs.Common.{◌≡◌, ◌≢◌, ℕ, List, [], ◌∷◌, ◌++◌, codes}
use Rattle.std.proofs.Common.{Bool, true, false, ◌&&◌, if◌then◌else◌, nat_eq, Option, Some, None}
use Rattle.std.proofs.Common.{refl, sym, ◌∙◌, arith, Bor, MatchOption, length-append, unwrap_or}
use Rattle.std.specs.List.{starts_with, ends_with}
use Rattle.std.proofs.lemmas.Bool.{false_from_ne_true}
use Rattle.std.proofs.lemmas.Bool.Decides.{Decides-eqb}
use Rattle.std.proofs.lemmas.List.{take_at}
use Rattle.std.proofs.lemmas.Slice.Eq.{starts_is, ends_is}
use Rattle.h2_net.specs.Locations.{without_brackets}

-- Where the first of two tests fails, the second list is chosen.
first_fails : (one two : Bool) (xs ys : List ℕ) → one ≡ false
    → (if one && two then xs else ys) ≡ ys
first_fails one two xs ys fails = rw fails refl

-- Where a test fails, the second list is chosen.
test_fails : (two : Bool) (xs ys : List ℕ) → two ≡ false → (if two then xs else ys) ≡ ys
test_fails two xs ys fails = rw fails refl

-- Where a test holds, the first list is chosen.
test_holds : (two : Bool) (xs ys : List ℕ) → two ≡ true → (if two then xs else ys) ≡ xs
test_holds two xs ys holds = rw holds refl

-- A host that does not begin with a bracket is as it is.
pub no_opening : (host : List ℕ) → ((rest : List ℕ) → host ≢ 91 ∷ rest)
    → without_brackets host ≡ host
no_opening host none =
    first_fails (starts_with nat_eq host (codes "[")) _ _ _
    (false_from_ne_true _ (λ starts.
    none _ ((starts_is Decides-eqb host (codes "[") _ refl).0 starts)))

-- A host that begins with a bracket, and does not end with one, is as it is.
no_closing : (inner : List ℕ) → ((front : List ℕ) → inner ≢ front ++ (93 ∷ []))
    → without_brackets (91 ∷ inner) ≡ 91 ∷ inner
no_closing inner none =
    test_fails (ends_with nat_eq inner (codes "]")) _ _
    (false_from_ne_true _ (λ ends. none _ ((ends_is Decides-eqb inner (codes "]") _ refl).0 ends)))

-- A host in brackets is what stands in them.
in_brackets : (inner : List ℕ) → without_brackets (91 ∷ (inner ++ (93 ∷ []))) ≡ inner
in_brackets inner =
    test_holds (ends_with nat_eq (inner ++ (93 ∷ [])) (codes "]")) _ _
    ((ends_is Decides-eqb (inner ++ (93 ∷ [])) (codes "]") _ refl).1 inner refl)
    ∙ take_at inner (93 ∷ []) _ (omega (arith, length-append inner (93 ∷ [])))

-- After the first bracket: what stands before the last one, or the host.
pub after_opening : (host inner : List ℕ) (found : Option (Bor (List ℕ))) (whole : Bor (List ℕ))
    → host ≡ 91 ∷ inner → whole.now ≡ host
    → MatchOption found ((front : List ℕ) → inner ≢ front ++ (93 ∷ []))
    (λ front. inner ≡ front.now ++ (93 ∷ []))
    → (unwrap_or found whole).now ≡ without_brackets host
after_opening host inner None whole opens is none =
    rw (is, opens) (sym (no_closing inner none))
after_opening host inner (Some front) whole opens is ends =
    rw (opens, ends) (sym (in_brackets front.now))
