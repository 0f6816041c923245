-- How many places have a connection, as one takes a place or leaves it.
use Rattle.std.proofs.Common.{◌≡◌, ◌+◌, ◌-◌, ◌^◌, ◌<◌, ◌∙◌, ℕ, List, Option, Some, None, refl, ap, arith, true, sym}
use Rattle.std.proofs.Common.{slice_set, is_some, length, [], ◌∷◌, ◌++◌, cond, min, false, is_none, inl, inr}
use Rattle.std.proofs.lemmas.List.Sums.{sum_by-append}
use Rattle.h2_host.specs.declared.table.Slot.{Slot}
use Rattle.h2_host.specs.Openings.{new_slot}
use Rattle.h2_host.specs.Tokens.{HasNext, connections_at, slot_at}
use Rattle.h2_host.proofs.Places.{longer_cases}
use Rattle.h2_host.proofs.Sums.{count_below, count_less, count_more, count_same}

-- A place that is taken counts one more,
pub taken_counts : {P : Type 0} (slots : List (Slot P)) (place : ℕ) (slot next : Slot P)
    → slot_at slots place ≡ Some slot → slot.party ≡ None → is_some next.party ≡ true
    → connections_at (slice_set slots place next) ≡ connections_at slots + 1
taken_counts {P = P} slots place slot next at empty taken =
    count_more (λ (one : Slot P). is_some one.party) slots place slot next at (ap is_some empty)
    taken

-- as there were fewer than places;
pub empty_below : {P : Type 0} (slots : List (Slot P)) (place : ℕ) (slot : Slot P)
    → slot_at slots place ≡ Some slot → slot.party ≡ None → connections_at slots < length slots
empty_below {P = P} slots place slot at empty =
    count_below (λ (one : Slot P). is_some one.party) slots place slot at (ap is_some empty)

-- one that is left counts one fewer,
pub left_counts : {P : Type 0} (slots : List (Slot P)) (place : ℕ) (slot next : Slot P)
    → slot_at slots place ≡ Some slot → is_some slot.party ≡ true → next.party ≡ None
    → connections_at slots ≡ connections_at (slice_set slots place next) + 1
left_counts {P = P} slots place slot next at taken empty =
    count_less (λ (one : Slot P). is_some one.party) slots place slot next at taken
    (ap is_some empty)

-- and a new place none.
pub made_counts : {P : Type 0} (slots : List (Slot P))
    → connections_at (slots ++ new_slot ∷ []) ≡ connections_at slots
made_counts {P = P} slots =
    let sum = sum_by-append (λ (one : Slot P). cond (is_some one.party) 1 0) slots (new_slot ∷ []) in
    sum ∙ omega arith

-- What is counted by adding one, no more than 64 bits hold, is one more,
pub one_more : (before after added : ℕ) → after ≡ before + 1 → before < 2 ^ 20
    → added ≡ min (before + 1) 18446744073709551615 → added ≡ after
one_more before after added more few is = omega (arith, more, few, is)

-- and by taking one away is one fewer.
pub one_fewer : (before after left : ℕ) → before ≡ after + 1 → left ≡ before - 1 → left ≡ after
one_fewer before after left more is = omega (arith, more, is)

-- A new place has been given to nobody.
pub next_made : {P : Type 0} (slots : List (Slot P)) → HasNext slots
    → HasNext (slots ++ new_slot ∷ [])
next_made {P = P} slots has = λ place slot at taken.
    elim (longer_cases slots new_slot place slot at) [
      | inl there ↦ has place slot there taken
      | inr same ↦
          let empty : is_none slot.party ≡ true = ap (λ (s : Slot P). is_none s.party) same in
          let contrary : true ≡ false = sym empty ∙ taken in absurd (let no = contrary in cc)
    ]

-- Whether there is something is told by whether there is nothing.
some_told : {P : Type 0} (one other : Option P) → is_none one ≡ is_none other
    → is_some one ≡ is_some other
some_told None None same = refl
some_told None (Some it) same = absurd (let no : true ≡ false = same in cc)
some_told (Some it) None same = absurd (let no : false ≡ true = same in cc)
some_told (Some it) (Some that) same = refl

-- A place that is written counts as before where somebody has it as before.
pub kept_counts : {P : Type 0} (slots : List (Slot P)) (place : ℕ) (slot next : Slot P)
    → slot_at slots place ≡ Some slot → is_none next.party ≡ is_none slot.party
    → connections_at (slice_set slots place next) ≡ connections_at slots
kept_counts {P = P} slots place slot next at same =
    count_same (λ (one : Slot P). is_some one.party) slots place slot next at
    (some_told next.party slot.party same)
