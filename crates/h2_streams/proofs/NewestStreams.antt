-- The greatest difference of send windows, with the stream that was opened last.
use Rattle.h2_streams.proofs.Names.{◌≡◌, ℕ, Bool, true, false, cond, List, [], ◌∷◌, Option, Some, None}
use Rattle.h2_streams.proofs.Names.{IfSome, refl, sym, ap, ◌∙◌, nat_eq, arith, ints, both_ways, ℤ}
use Rattle.h2_streams.proofs.Names.{◌≤ℤ◌, int_lt, active_at, greater_of, Kept}
use Rattle.std.proofs.Common.{inl, inr, eqb-true}
use Rattle.std.proofs.lemmas.Bool.{cases_Bool, eq-eqb}
use Rattle.h2_streams.specs.Table.{IsGreatestOf, IsGreatestOffset}

-- What is found is low, if one entry and what else is found are.
low_with : (b : Bool) (kept : Kept) (old : Option Kept) (offset : ℤ) → kept.send_offset ≤ℤ offset
    → IfSome old (λ one. one.send_offset ≤ℤ offset)
    → IfSome (cond b (Some kept) old) (λ one. one.send_offset ≤ℤ offset)
low_with true kept old offset here all = here
low_with false kept old offset here all = all

-- What is low is below what is higher.
low_below : (old : Option Kept) (low high : ℤ) → low ≤ℤ high
    → IfSome old (λ one. one.send_offset ≤ℤ low) → IfSome old (λ one. one.send_offset ≤ℤ high)
low_below None low high order all = tt
low_below (Some one) low high order all = grind (arith, ints)

-- Another number's entry is found behind one.
found_behind : (number q : ℕ) (kept one : Kept) (older : List (ℕ × Kept))
    → active_at number older ≡ None → active_at q older ≡ Some one
    → active_at q ((number, kept) ∷ older) ≡ Some one
found_behind number q kept one older apart found = elim (cases_Bool (nat_eq q number)) [
  | inl same ↦
      let two : None ≡ Some one = sym apart ∙ ap (λ (i : ℕ). active_at i older)
      (sym (eqb-true q number same)) ∙ found in
      absurd (cc)
  | inr other ↦ ap (λ (b : Bool). cond b (Some kept) (active_at q older)) other ∙ found
]

-- An entry is found at its number before all others.
found_first : (number : ℕ) (kept : Kept) (older : List (ℕ × Kept))
    → active_at number ((number, kept) ∷ older) ≡ Some kept
found_first number kept older =
    ap (λ (b : Bool). cond b (Some kept) (active_at number older)) (eq-eqb number number refl)

-- The greatest difference is that of one entry or the greatest of the others, by which is greater.
greatest_by : (b : Bool) (number : ℕ) (kept : Kept) (older : List (ℕ × Kept)) (other : ℤ)
    → int_lt kept.send_offset other ≡ b → active_at number older ≡ None
    → IsGreatestOf older other
    → IsGreatestOf ((number, kept) ∷ older) (cond b other kept.send_offset)
greatest_by true number kept older other is apart before = record {
  most = λ q. low_with (nat_eq q number) kept (active_at q older) other (grind (arith, ints))
      (before.most q);
  number = before.number;
  kept = before.kept;
  found = found_behind number before.number kept before.kept older apart before.found;
  same = before.same;
}
greatest_by false number kept older other is apart before =
    let over : other ≤ℤ kept.send_offset = grind (arith, ints) in
    record {
      most = λ q. low_with (nat_eq q number) kept (active_at q older) kept.send_offset
          (omega (arith, ints)) (low_below (active_at q older) other kept.send_offset over
          (before.most q));
      number = number;
      kept = kept;
      found = found_first number kept older;
      same = refl;
    }

pub greatest_with : (number : ℕ) (kept : Kept) (older : List (ℕ × Kept)) (greatest : Option ℤ)
    → active_at number older ≡ None → IsGreatestOffset older greatest
    → IsGreatestOf ((number, kept) ∷ older) (greater_of greatest kept.send_offset)
greatest_with number kept older None apart none = rw (none) (record {
  most = λ q. low_with (nat_eq q number) kept None kept.send_offset (omega (arith, ints)) tt;
  number = number;
  kept = kept;
  found = found_first number kept [];
  same = refl;
})
greatest_with number kept older (Some other) apart before =
    greatest_by (int_lt kept.send_offset other) number kept older other refl apart before
