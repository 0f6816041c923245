-- What is at the places of a host once one of them was written.
use Rattle.std.specs.Prelude.{◌++◌, ◌≡◌, ◌≢◌, ◌<◌, ◌⊎◌, ◌-◌, ◌^◌, ◌↔◌, is_none, true, false, ltb}
use Rattle.std.specs.Prelude.{is_some}
use Rattle.std.specs.Prelude.{length, get_or, ℕ, zero, suc, List, [], ◌∷◌, Option, Some, None}
use Rattle.std.specs.Prelude.{slice_get}
use Rattle.std.specs.Prelude.{slice_set}
use Rattle.std.proofs.Common.{refl, sym, ap, subst, inl, inr, ◌∙◌}
use Rattle.std.proofs.lemmas.Bool.{cases_eq, lt-ltb}
use Rattle.std.proofs.lemmas.List.{length-set}
use Rattle.std.proofs.lemmas.Option.{slice_get_read, slice_get_within}
use Rattle.h2_host.specs.declared.table.Slot.{Slot}
use Rattle.h2_host.specs.declared.token.Token.{Token}
use Rattle.h2_host.specs.Tokens.{AreFree, HasNext, IsAt, IsNow, slot_at}
use Rattle.h2_host.specs.Isolation.{IsSameOfParties}

-- What was written at an index is there.
pub get_written : {A : Type 0} (xs : List A) (i : ℕ) (x y : A) → slice_get xs i ≡ Some x
    → slice_get (slice_set xs i y) i ≡ Some y
get_written [] i x y is = cc
get_written (z ∷ xs) zero x y is = refl
get_written (z ∷ xs) (suc i) x y is = get_written xs i x y is

-- What is at another index is as it was.
pub get_unwritten : {A : Type 0} (xs : List A) (i j : ℕ) (y : A) → j ≢ i
    → slice_get (slice_set xs i y) j ≡ slice_get xs j
get_unwritten [] i j y other = refl
get_unwritten (z ∷ xs) zero zero y other = absurd (other refl)
get_unwritten (z ∷ xs) zero (suc j) y other = refl
get_unwritten (z ∷ xs) (suc i) zero y other = refl
get_unwritten (z ∷ xs) (suc i) (suc j) y other =
    get_unwritten xs i j y (λ same. other (ap suc same))

-- What was read at a place is there.
pub slot_read : {P : Type 0} (slots : List (Slot P)) (place : ℕ) (slot : Slot P)
    → (place < length slots) × ((d : Slot P) → slot ≡ get_or slots place d)
    → slot_at slots place ≡ Some slot
slot_read slots place slot read =
    slice_get_read slots (length slots) place slot refl read.0 (read.1 slot)

-- What is read at the place of a token of now is of its generation.
pub generation_read : {P : Type 0} (slots : List (Slot P)) (token : Token) (slot : Slot P)
    (party : P) → slot_at slots token.place ≡ Some slot → IsAt slots token party
    → slot.generation ≡ token.generation
generation_read slots token slot party read at =
    let same : slot ≡ at.slot = let here = at.at in cc in
    ap (λ s. s.generation) same ∙ at.generation

-- A place whose slot is of this generation, and has a connection, has a token of now; and only
-- then.
pub is_now_read : {P : Type 0} (slots : List (Slot P)) (token : Token) (slot : Slot P)
    → slot_at slots token.place ≡ Some slot → slot.generation ≡ token.generation
    → (is_some slot.party ≡ true) ↔ IsNow slots token
is_now_read {P = P} slots token slot at generation = (
  (λ some.
      let inside : (value : Option P) → is_some value ≡ true → (it : P) × (value ≡ Some it) =
      λ value. elim value as (λ v. is_some v ≡ true → (it : P) × (v ≡ Some it)) [
        | None ↦ λ is. absurd (let no : false ≡ true = is in cc)
        | Some it ↦ λ is. (it, refl)
      ] in
      let party = inside slot.party some in
      (party.0, record { slot = slot; at = at; generation = generation; taken = party.1 })),
  (λ now.
      let same : slot ≡ now.1.slot = let here = now.1.at in cc in
      ap is_some (ap (λ s. s.party) same ∙ now.1.taken)),
)

-- A token of another generation is not of now.
pub is_not_now : {P : Type 0} (slots : List (Slot P)) (token : Token) (slot : Slot P)
    → slot_at slots token.place ≡ Some slot → (slot.generation ≡ token.generation → ⊥)
    → IsNow slots token → ⊥
is_not_now slots token slot at other now =
    other (generation_read slots token slot now.0 at now.1)

-- A place that was not found has no token of now.
pub none_now : {P : Type 0} (slots lent : List (Slot P)) (token : Token) → lent ≡ slots
    → false ≡ ltb token.place (length lent) → IsNow slots token → ⊥
none_now slots lent token same none now =
    let within = slice_get_within slots token.place now.1.slot now.1.at in
    let is : ltb token.place (length lent) ≡ true =
    lt-ltb token.place (length lent) (subst (λ xs. token.place < length xs) (sym same) within) in
    let no : false ≡ true = none ∙ is in cc

-- What was lent at a place is there.
pub slot_lent : {P : Type 0} (slots lent : List (Slot P)) (place : ℕ) (slot : Slot P)
    → lent ≡ slots → (place < length lent) × ((d : Slot P) → slot ≡ get_or lent place d)
    → slot_at slots place ≡ Some slot
slot_lent slots lent place slot same read =
    subst (λ xs. slot_at xs place ≡ Some slot) same (slot_read lent place slot read)

-- What is at a place once another was written, or the same.
pub at_written : {A : Type 0} (xs : List A) (i j : ℕ) (x y z : A) → slice_get xs i ≡ Some x
    → slice_get (slice_set xs i y) j ≡ Some z
    → ((j ≡ i) × (z ≡ y)) ⊎ ((j ≢ i) × (slice_get xs j ≡ Some z))
at_written xs i j x y z at is = elim (cases_eq j i) [
  | inl same ↦
      let there = get_written xs i x y at in
      let here = subst (λ k. slice_get (slice_set xs i y) k ≡ Some z) same is in
      inl (same, cc)
  | inr differs ↦ inr (differs, sym (get_unwritten xs i j y differs) ∙ is)
]

-- The free places stay so where one is written of the same generation, and with a connection just
-- where it had one.
pub free_kept : {P : Type 0} (slots : List (Slot P)) (free : List ℕ) (place : ℕ)
    (slot next : Slot P) → AreFree slots free → slot_at slots place ≡ Some slot
    → next.generation ≡ slot.generation → is_none next.party ≡ is_none slot.party
    → AreFree (slice_set slots place next) free
free_kept slots free place slot next are at generation party = record {
  within = λ i is. subst (λ n. get_or free i 0 < n) (sym (length-set slots place next))
      (are.within i is);
  empty = λ i other is there. elim (at_written slots place
      (get_or free i 0) slot next other at there) [
        | inl (same, written) ↦
            let was = are.empty i slot is (ap (slot_at slots) same ∙ at) in (
              ap (λ (s : Slot _). is_none s.party) written ∙ (party ∙ was.0),
              subst (λ n. n < 2 ^ 32 - 1) (sym (ap (λ (s : Slot _). s.generation) written
                  ∙ generation)) was.1,
            )
        | inr (differs, unwritten) ↦ are.empty i other is unwritten
      ];
  once = are.once;
}

-- Each connection has a next generation still.
pub next_kept : {P : Type 0} (slots : List (Slot P)) (place : ℕ) (slot next : Slot P)
    → HasNext slots → slot_at slots place ≡ Some slot → next.generation ≡ slot.generation
    → is_none next.party ≡ is_none slot.party → HasNext (slice_set slots place next)
next_kept slots place slot next has at generation party = λ other_place other there taken.
    elim (at_written slots place other_place slot next other at there) [
      | inl (same, written) ↦
          let is = has place slot at
          (sym party ∙ (sym (ap (λ (s : Slot _). is_none s.party) written) ∙ taken)) in
          subst (λ n. n < 2 ^ 32 - 1)
          (sym (ap (λ (s : Slot _). s.generation) written ∙ generation)) is
      | inr (differs, unwritten) ↦ has other_place other unwritten taken
    ]

-- A place that was written has the same connection where what was written has.
pub same_written : {P : Type 0} (slots : List (Slot P)) (place : ℕ) (slot next : Slot P)
    → slot_at slots place ≡ Some slot → next.generation ≡ slot.generation
    → next.party ≡ slot.party → IsSameOfParties slots (slice_set slots place next)
same_written slots place slot next at generation party = λ other before is.
    elim (cases_eq other place) [
      | inl same ↦
          let same_slot : slot ≡ before = let there = ap (slot_at slots) (sym same) ∙ is in cc in (
            next,
            ap (slot_at (slice_set slots place next)) same
                ∙ get_written slots place slot next at,
            generation ∙ ap (λ (s : Slot _). s.generation) same_slot,
            party ∙ ap (λ (s : Slot _). s.party) same_slot,
          )
      | inr differs ↦
          (before, get_unwritten slots place other next differs ∙ is, refl, refl)
    ]

-- Nothing has changed.
pub same_itself : {P : Type 0} (slots : List (Slot P)) → IsSameOfParties slots slots
same_itself slots = λ place slot is. (slot, is, refl, refl)

-- What is the same of what is the same is the same.
pub same_twice : {P : Type 0} (old mid new : List (Slot P)) → IsSameOfParties old mid
    → IsSameOfParties mid new → IsSameOfParties old new
same_twice old mid new a b = λ place slot is.
    let one = a place slot is in
    let two = b place one.0 one.1 in (two.0, two.1, two.2 ∙ one.2, two.3 ∙ one.3)

-- A place has one slot.
pub one_slot : {P : Type 0} (slots : List (Slot P)) (place : ℕ) (a b : Slot P)
    → slot_at slots place ≡ Some a → slot_at slots place ≡ Some b → a ≡ b
one_slot slots place a b x y = cc

-- A token names one connection.
pub one_at : {P : Type 0} (slots : List (Slot P)) (token : Token) (a b : P) → IsAt slots token a
    → IsAt slots token b → a ≡ b
one_at {P = P} slots token a b x y =
    let same = ap (λ (slot : Slot P). slot.party)
    (one_slot slots token.place x.slot y.slot x.at y.at) in
    let one = x.taken in
    let other = y.taken in cc

-- What is there is there where there is more.
pub get_longer : {A : Type 0} (xs ys : List A) (i : ℕ) (x : A) → slice_get xs i ≡ Some x
    → slice_get (xs ++ ys) i ≡ Some x
get_longer [] ys i x is = absurd (let no = is in cc)
get_longer (z ∷ xs) ys zero x is = is
get_longer (z ∷ xs) ys (suc i) x is = get_longer xs ys i x is

-- What is there where there is one more was there, or is that one.
pub longer_cases : {A : Type 0} (xs : List A) (y : A) (i : ℕ) (x : A)
    → slice_get (xs ++ y ∷ []) i ≡ Some x → (slice_get xs i ≡ Some x) ⊎ (x ≡ y)
longer_cases [] y zero x is = inr cc
longer_cases [] y (suc i) x is = absurd (let no = is in cc)
longer_cases (z ∷ xs) y zero x is = inl is
longer_cases (z ∷ xs) y (suc i) x is = longer_cases xs y i x is

-- No place has gone where there is one more.
pub same_longer : {P : Type 0} (slots : List (Slot P)) (more : List (Slot P))
    → IsSameOfParties slots (slots ++ more)
same_longer slots more = λ place slot is.
    (slot, get_longer slots more place slot is, refl, refl)

-- A connection that is kept is at its place.
pub at_kept : {P : Type 0} (old new : List (Slot P)) (token : Token) (party : P)
    → IsSameOfParties old new → IsAt old token party → IsAt new token party
at_kept old new token party same at =
    let there = same token.place at.slot at.at in
    record {
      slot = there.0;
      at = there.1;
      generation = there.2 ∙ at.generation;
      taken = there.3 ∙ at.taken;
    }

-- A place that was written had the same connection where what was written has.
pub back_written : {P : Type 0} (slots : List (Slot P)) (place : ℕ) (slot next : Slot P)
    → slot_at slots place ≡ Some slot → next.generation ≡ slot.generation
    → next.party ≡ slot.party → IsSameOfParties (slice_set slots place next) slots
back_written slots place slot next at generation party = λ other one is.
    elim (at_written slots place other slot next one at is) [
      | inl (same, written) ↦ (
        slot,
        ap (slot_at slots) same ∙ at,
        sym (ap (λ (s : Slot _). s.generation) written ∙ generation),
        sym (ap (λ (s : Slot _). s.party) written ∙ party),
      )
      | inr (differs, unwritten) ↦ (one, unwritten, refl, refl)
    ]
