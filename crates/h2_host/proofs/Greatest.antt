-- The place that holds most, found from the first to the last.
use Rattle.std.specs.Prelude.{◌≡◌, ◌<◌, ◌≤◌, ◌+◌, ℕ, zero, suc, List, [], ◌∷◌, length, Option}
use Rattle.std.specs.Prelude.{Some, None, MatchOption, slice_get}
use Rattle.std.proofs.Common.{refl, sym, ap, subst, arith, inl, inr, ◌∙◌}
use Rattle.std.proofs.lemmas.Bool.{cases_eq}
use Rattle.std.proofs.lemmas.Option.{slice_get_within}
use Rattle.h2_host.specs.declared.table.Slot.{Slot}
use Rattle.h2_host.specs.declared.token.Token.{Token}
use Rattle.h2_host.specs.Bounds.{held_by, held_in_all, slot_held}
use Rattle.h2_host.specs.Moves.{HoldsAt, HoldsMost, IsGreatestBelow, NobodyAt, NowAt}
use Rattle.h2_host.specs.Tokens.{slot_at}
use Rattle.h2_host.proofs.Sums.{sum_of_nothing}

-- There is something at each index below the length.
pub there_within : {A : Type 0} (xs : List A) (i : ℕ) → i < length xs
    → (x : A) × (slice_get xs i ≡ Some x)
there_within [] i is = absurd (omega (arith, is))
there_within (x ∷ xs) zero is = (x, refl)
there_within (x ∷ xs) (suc i) is = there_within xs i (omega (arith, is))

module _ {P : Type 0} (held_of : P → ℕ) (slots : List (Slot P)) where
  pub greatest_begins : IsGreatestBelow held_of slots 0 0 0
  greatest_begins = record {
    most_of = λ other one at below. absurd (omega (arith, below));
    lowest = λ other one at below. absurd (omega (arith, below));
    there = λ some. absurd (omega (arith, some));
  }

  -- A place that holds no more.
  pub greatest_kept : (place greatest most held : ℕ)
      → IsGreatestBelow held_of slots place greatest most → HoldsAt held_of slots place held
      → held ≤ most → IsGreatestBelow held_of slots (place + 1) greatest most
  greatest_kept place greatest most held so_far holds small = record {
    most_of = λ other one at below. elim (cases_eq other place) [
      | inl same ↦
          let is = holds one (ap (slot_at slots) (sym same) ∙ at) in omega (arith, is, small)
      | inr differs ↦ so_far.most_of other one at (omega (arith, below, differs))
    ];
    lowest = so_far.lowest;
    there = so_far.there;
  }

  -- One that holds more than all before it.
  pub greatest_on : (place greatest most held : ℕ)
      → IsGreatestBelow held_of slots place greatest most → HoldsAt held_of slots place held
      → place < length slots → most < held
      → IsGreatestBelow held_of slots (place + 1) place held
  greatest_on place greatest most held so_far holds within more = record {
    most_of = λ other one at below. elim (cases_eq other place) [
      | inl same ↦
          let is = holds one (ap (slot_at slots) (sym same) ∙ at) in omega (arith, is)
      | inr differs ↦
          let before = so_far.most_of other one at (omega (arith, below, differs)) in
          omega (arith, before, more)
    ];
    lowest = λ other one at below.
        let before = so_far.most_of other one at below in omega (arith, before, more);
    there = λ some.
        let slot = there_within slots place within in
        (slot.0, slot.1, holds slot.0 slot.1);
  }

  -- Some place holds something.
  some_most : (greatest most : ℕ) → IsGreatestBelow held_of slots (length slots) greatest most
      → 0 < held_in_all held_of slots → 0 < most
  some_most greatest zero is some =
      let none = sum_of_nothing (slot_held held_of) slots
      (λ i slot at. is.most_of i slot at (slice_get_within slots i slot at)) in
      absurd (omega (arith, none, some))
  some_most greatest (suc most) is some = omega arith

  -- Nobody holds nothing.
  none_held : (slot : Slot P) → slot.party ≡ None → slot_held held_of slot ≡ 0
  none_held slot nobody = ap (held_by held_of) nobody

  pub greatest_named : (greatest most : ℕ) (token : Option Token)
      → IsGreatestBelow held_of slots (length slots) greatest most
      → 0 < held_in_all held_of slots
      → MatchOption token (NobodyAt slots greatest) (NowAt slots greatest)
      → MatchOption token ⊥ (λ it. HoldsMost held_of slots it)
  greatest_named greatest most None is some nobody =
      let much = some_most greatest most is some in
      let there = is.there much in
      let none = none_held there.0 (nobody there.0 there.1) in
      let held = there.2 in absurd (omega (arith, much, none, held))
  greatest_named greatest most (Some token) is some now =
      let much = some_most greatest most is some in
      let there = is.there much in
      let held = there.2 in
      record {
        now = now.0;
        greatest = record {
          slot = there.0;
          at = ap (slot_at slots) now.1 ∙ there.1;
          most = λ other one at.
              let fits = is.most_of other one at (slice_get_within slots other one at) in
              omega (arith, fits, held);
          lowest = λ other one at below.
              let less = is.lowest other one at (subst (λ p. other < p) now.1 below) in
              omega (arith, less, held);
        };
        some = omega (arith, much, held);
      }
