-- Octets of two lists, copied one after the other over those of a third.
use Rattle.std.proofs.Common.{◌≡◌, ◌∙◌, refl, sym, ap, ℕ, zero, suc, ◌+◌, ◌-◌, ◌≤◌, List, ◌++◌}
use Rattle.std.proofs.Common.{length}
use Rattle.std.proofs.Common.{take, drop, arith, append_assoc, length-drop}
use Rattle.std.specs.Prelude.{min}
use Rattle.std.proofs.lemmas.List.{take-append-drop, take-take, drop-take, take-append-le}
use Rattle.std.proofs.lemmas.List.{drop-append-le, drop_all, drop-drop, drop_at, take_at}
use Rattle.std.proofs.lemmas.List.{length-take}

-- The first octets of two lists are those of the one, and then of what is left of it and the
-- other.
parts : (first second : ℕ) (one two : List ℕ) → first ≤ length one
    → take (first + second) (one ++ two) ≡ take first one ++ take second (drop first one ++ two)
parts first second one two within =
    sym (take-append-drop first (take (first + second) (one ++ two)))
    ∙ rw (
      take-take first (first + second) (one ++ two) (omega arith),
      drop-take first second (one ++ two),
      take-append-le first one two within,
      drop-append-le first one two within,
    ) refl

-- Where some are of the other, nothing is left of the one.
no_gap : (first second room : ℕ) (one two : List ℕ) → first ≡ min room (length one)
    → second ≡ min (room - first) (length two) → take second
    (drop first one ++ two) ≡ take second two
no_gap first zero room one two f s = refl
no_gap first (suc n) room one two f s = rw (drop_all first one (omega (arith, f, s))) refl

module _ (before one two : List ℕ) (first second : ℕ) where
  -- Both were copied.
  pub both_copied : (once twice : List ℕ) → first ≡ min (length before) (length one)
      → once ≡ take first one ++ drop first before
      → second ≡ min (length (drop first once)) (length two)
      → twice ≡ take second two ++ drop second (drop first once)
      → take first once ++ twice
      ≡ take (first + second) (one ++ two) ++ drop (first + second) before
  both_copied once twice f o s t =
      let within : length (take first one) ≡ first = length-take first one ∙ omega (arith, f) in
      let front : take first once ≡ take first one = ap (λ (xs : List ℕ). take first xs) o
      ∙ take_at (take first one) (drop first before) first within in
      let back : drop first once ≡ drop first before = ap (λ (xs : List ℕ). drop first xs) o
      ∙ drop_at (take first one) (drop first before) first within in
      let room : second ≡ min (length before - first) (length two) = s
      ∙ ap (λ (n : ℕ). min n (length two))
      (ap (λ (xs : List ℕ). length xs) back ∙ length-drop first before) in
      let rest : twice ≡ take second two ++ drop (first + second) before = t
      ∙ (ap (λ (xs : List ℕ). take second two ++ drop second xs) back
      ∙ ap (λ (xs : List ℕ). take second two ++ xs) (drop-drop second first before)) in
      ap (λ (xs : List ℕ). xs ++ twice) front ∙ (ap (λ (xs : List ℕ). take first one ++ xs) rest
      ∙ (sym (append_assoc (take first one) (take second two) (drop (first + second) before))
      ∙ ap (λ (xs : List ℕ). xs ++ drop (first + second) before)
      (sym (parts first second one two (omega (arith, f))
      ∙ ap (λ (xs : List ℕ). take first one ++ xs)
      (no_gap first second (length before) one two f room)))))
