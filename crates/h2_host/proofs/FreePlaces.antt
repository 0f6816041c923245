-- A free place is taken, or a place becomes free.
use Rattle.std.specs.Prelude.{◌≡◌, ◌≢◌, ◌<◌, ◌+◌, ◌-◌, ◌^◌, ◌++◌, ◌⊎◌, ℕ, List, []}
use Rattle.std.specs.Prelude.{◌∷◌, length, get_or, Option, Some, None, is_none, true, false}
use Rattle.std.specs.Prelude.{slice_set, Bool, if◌then◌else◌}
use Rattle.std.proofs.Common.{refl, sym, ap, subst, inl, inr, arith, ◌∙◌}
use Rattle.std.proofs.lemmas.Bool.{cases_eq}
use Rattle.std.proofs.lemmas.List.{get_or_append_left, get_or_at, length-append, length-set}
use Rattle.h2_host.specs.declared.table.Slot.{Slot}
use Rattle.h2_host.specs.Tokens.{AreFree, HasNext, slot_at}
use Rattle.h2_host.proofs.Places.{at_written, get_written}

-- A list with one more is longer by one.
length_more : (xs : List ℕ) (x : ℕ) → length (xs ++ x ∷ []) ≡ length xs + 1
length_more xs x = length-append xs (x ∷ [])

-- The last of the free places, of which each other one is another.
pub record IsLastFree {P : Type 0} (slots : List (Slot P)) (rest : List ℕ) (place : ℕ) : Type 0
  where
    pub empty : (slot : Slot P) → slot_at slots place ≡ Some slot
        → (is_none slot.party ≡ true) × (slot.generation < 2 ^ 32 - 1)
    pub other : (i : ℕ) → i < length rest → get_or rest i 0 ≢ place
    pub others : AreFree slots rest

last_free : {P : Type 0} (slots : List (Slot P)) (rest : List ℕ) (place : ℕ)
    → AreFree slots (rest ++ place ∷ []) → IsLastFree slots rest place
last_free slots rest place are =
    let more = length_more rest place in
    let all = rest ++ place ∷ [] in
    record {
      empty = λ slot at. are.empty (length rest) slot (omega (arith, more))
          (ap (slot_at slots) (get_or_at rest place [] 0 (length rest) refl) ∙ at);
      other = λ i is same.
          let first = are.once i (length rest) (omega (arith, more, is)) (omega (arith, more))
          (get_or_append_left rest (place ∷ []) 0 i is ∙
          (same ∙ sym (get_or_at rest place [] 0 (length rest) refl))) in
          omega (arith, first, is);
      others = record {
        within = λ i is. subst (λ n. n < length slots)
            (get_or_append_left rest (place ∷ []) 0 i is)
            (are.within i (omega (arith, more, is)));
        empty = λ i slot is at. are.empty i slot (omega (arith, more, is))
            (ap (slot_at slots) (get_or_append_left rest (place ∷ []) 0 i is) ∙ at);
        once = λ i j is js same. are.once i j (omega (arith, more, is)) (omega (arith, more, js))
            (get_or_append_left rest (place ∷ []) 0 i is ∙
            (same ∙ sym (get_or_append_left rest (place ∷ []) 0 j js)));
      };
    }

-- The last free place is taken: the others are free still.
pub free_taken : {P : Type 0} (slots : List (Slot P)) (rest : List ℕ) (place : ℕ)
    (slot next : Slot P) → AreFree slots (rest ++ place ∷ []) → slot_at slots place ≡ Some slot
    → AreFree (slice_set slots place next) rest
free_taken slots rest place slot next are at =
    let last = last_free slots rest place are in
    record {
      within = λ i is. subst (λ n. get_or rest i 0 < n) (sym (length-set slots place next))
          (last.others.within i is);
      empty = λ i other is there.
          elim (at_written slots place (get_or rest i 0) slot next other at there) [
            | inl (same, written) ↦ absurd (last.other i is same)
            | inr (differs, unwritten) ↦ last.others.empty i other is unwritten
          ];
      once = last.others.once;
    }

-- Who takes it has a next generation.
pub next_taken : {P : Type 0} (slots : List (Slot P)) (rest : List ℕ) (place : ℕ)
    (slot next : Slot P) → AreFree slots (rest ++ place ∷ []) → HasNext slots
    → slot_at slots place ≡ Some slot → next.generation ≡ slot.generation
    → HasNext (slice_set slots place next)
next_taken slots rest place slot next are has at generation = λ other_place other there taken.
    elim (at_written slots place other_place slot next other at there) [
      | inl (same, written) ↦
          subst (λ n. n < 2 ^ 32 - 1)
          (sym (ap (λ (s : Slot _). s.generation) written ∙ generation))
          ((last_free slots rest place are).empty slot at).1
      | inr (differs, unwritten) ↦ has other_place other unwritten taken
    ]

-- A place that has a connection isn't free.
not_free : {P : Type 0} (slots : List (Slot P)) (free : List ℕ) (place : ℕ) (slot : Slot P)
    (party : P) → AreFree slots free → slot_at slots place ≡ Some slot
    → slot.party ≡ Some party → (i : ℕ) → i < length free → get_or free i 0 ≢ place
not_free slots free place slot party are at taken i is same =
    let none = (are.empty i slot is (ap (slot_at slots) same ∙ at)).0 in
    let some : is_none slot.party ≡ false = ap is_none taken in
    let contrary : true ≡ false = sym none ∙ some in cc

-- The free places are free still where a connection leaves another one.
pub free_others : {P : Type 0} (slots : List (Slot P)) (free : List ℕ) (place : ℕ)
    (slot next : Slot P) (party : P) → AreFree slots free → slot_at slots place ≡ Some slot
    → slot.party ≡ Some party → AreFree (slice_set slots place next) free
free_others slots free place slot next party are at taken = record {
  within = λ i is. subst (λ n. get_or free i 0 < n) (sym (length-set slots place next))
      (are.within i is);
  empty = λ i other is there.
      elim (at_written slots place (get_or free i 0) slot next other at there) [
        | inl (same, written) ↦
            absurd (not_free slots free place slot party are at taken i is same)
        | inr (differs, unwritten) ↦ are.empty i other is unwritten
      ];
  once = are.once;
}

-- One of two places in a list with one more at its end.
front_or_last : (xs : List ℕ) (x i : ℕ) → i < length (xs ++ x ∷ [])
    → (i < length xs) ⊎ (i ≡ length xs)
front_or_last xs x i is = elim (cases_eq i (length xs)) [
  | inl same ↦ inr same
  | inr differs ↦ inl (let more = length_more xs x in omega (arith, more, is, differs))
]

-- The place that a connection has left is free too.
pub free_left : {P : Type 0} (slots : List (Slot P)) (free : List ℕ) (place : ℕ)
    (slot next : Slot P) (party : P) → AreFree slots free → slot_at slots place ≡ Some slot
    → slot.party ≡ Some party → place < length slots → next.party ≡ None
    → next.generation < 2 ^ 32 - 1
    → AreFree (slice_set slots place next) (free ++ place ∷ [])
free_left slots free place slot next party are at taken short none fits =
    let left = free_others slots free place slot next party are at taken in
    let new = slice_set slots place next in
    let here = get_written slots place slot next at in
    record {
      within = λ i is. elim (front_or_last free place i is) [
        | inl front ↦ subst (λ n. n < length new)
            (sym (get_or_append_left free (place ∷ []) 0 i front)) (left.within i front)
        | inr last ↦ subst (λ n. n < length new)
            (sym (get_or_at free place [] 0 i (sym last)))
            (subst (λ n. place < n) (sym (length-set slots place next)) short)
      ];
      empty = λ i other is there. elim (front_or_last free place i is) [
        | inl front ↦ left.empty i other front
            (ap (slot_at new) (sym (get_or_append_left free (place ∷ []) 0 i front)) ∙ there)
        | inr last ↦
            let at_place = ap (slot_at new) (sym (get_or_at free place [] 0 i (sym last)))
            ∙ there in
            let same : other ≡ next = cc in (
              ap (λ (s : Slot _). is_none s.party) same ∙ ap is_none none,
              subst (λ n. n < 2 ^ 32 - 1) (sym (ap (λ (s : Slot _). s.generation) same)) fits,
            )
      ];
      once = λ i j is js same. elim (front_or_last free place i is) [
        | inl front ↦ elim (front_or_last free place j js) [
          | inl other ↦ are.once i j front other
              (sym (get_or_append_left free (place ∷ []) 0 i front)
              ∙ (same ∙ get_or_append_left free (place ∷ []) 0 j other))
          | inr last ↦ absurd (not_free slots free place slot party are at taken i front
              (sym (get_or_append_left free (place ∷ []) 0 i front)
              ∙ (same ∙ get_or_at free place [] 0 j (sym last))))
        ]
        | inr first ↦ elim (front_or_last free place j js) [
          | inl other ↦ absurd (not_free slots free place slot party are at taken j other
              (sym (get_or_append_left free (place ∷ []) 0 j other)
              ∙ (sym same ∙ get_or_at free place [] 0 i (sym first))))
          | inr last ↦ first ∙ sym last
        ]
      ];
    }

-- The others have next generations still.
pub next_left : {P : Type 0} (slots : List (Slot P)) (place : ℕ) (slot next : Slot P)
    → HasNext slots → slot_at slots place ≡ Some slot → next.party ≡ None
    → HasNext (slice_set slots place next)
next_left slots place slot next has at none = λ other_place other there taken.
    elim (at_written slots place other_place slot next other at there) [
      | inl (same, written) ↦
          let empty : is_none other.party ≡ true =
          ap (λ (s : Slot _). is_none s.party) written ∙ ap is_none none in
          let contrary : true ≡ false = sym empty ∙ taken in absurd (let no = contrary in cc)
      | inr (differs, unwritten) ↦ has other_place other unwritten taken
    ]

-- The place that a connection has left is free too, where there was room for it.
pub free_pushed : {P : Type 0} (slots : List (Slot P)) (free pushed : List ℕ) (place : ℕ)
    (slot next : Slot P) (party : P) (ok : Bool) → AreFree slots free
    → slot_at slots place ≡ Some slot → slot.party ≡ Some party → place < length slots
    → next.party ≡ None → next.generation < 2 ^ 32 - 1
    → pushed ≡ (if ok then free ++ place ∷ [] else free)
    → AreFree (slice_set slots place next) pushed
free_pushed slots free pushed place slot next party true are at taken short none fits same =
    subst (AreFree (slice_set slots place next)) (sym same)
    (free_left slots free place slot next party are at taken short none fits)
free_pushed slots free pushed place slot next party false are at taken short none fits same =
    subst (AreFree (slice_set slots place next)) (sym same)
    (free_others slots free place slot next party are at taken)

-- A place that is given next has no connection.
pub last_empty : {P : Type 0} (slots : List (Slot P)) (rest : List ℕ) (place : ℕ) (slot : Slot P)
    → AreFree slots (rest ++ place ∷ []) → slot_at slots place ≡ Some slot → slot.party ≡ None
last_empty {P = P} slots rest place slot are at =
    let nobody : (party : Option P) → is_none party ≡ true → party ≡ None =
    λ party. elim party as (λ p. is_none p ≡ true → p ≡ None) [
      | None ↦ λ is. refl
      | Some it ↦ λ is. absurd (let no : false ≡ true = is in cc)
    ] in
    nobody slot.party ((last_free slots rest place are).empty slot at).0

-- One more place is free, that nobody has had.
pub free_made : {P : Type 0} (slots : List (Slot P)) (slot : Slot P)
    → AreFree (slots ++ slot ∷ []) []
free_made slots slot = record {
  within = λ i is. absurd (omega (arith, is));
  empty = λ i other is at. absurd (omega (arith, is));
  once = λ i j is js same. absurd (omega (arith, is));
}
