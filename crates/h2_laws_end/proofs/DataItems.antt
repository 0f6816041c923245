-- What holds of each DATA of a body, whose payload is within the greatest, holds of all that a call
-- writes of the body.
use Rattle.h2_laws_end.proofs.Names.{◌≡◌, ℕ, zero, suc, ◌≤◌, ◌==◌, ◌&&◌, Bool, false, List, [], ◌∷◌}
use Rattle.h2_laws_end.proofs.Names.{◌++◌, length, take, drop, None, refl, arith, AllByRecursion}
use Rattle.h2_laws_end.proofs.Names.{list_any, cond_both, or_from, leb-false, Data, Item, alone}
use Rattle.h2_laws_end.proofs.Names.{not, leb-true, length-take-le, data_frames, data_items, nat_le}

-- All of two lists.
pub all_of_both : (P : Item → Type 0) (one other : List Item) → AllByRecursion P one
    → AllByRecursion P other → AllByRecursion P (one ++ other)
all_of_both P [] other here there = there
all_of_both P (item ∷ one) other here there = (here.0, all_of_both P one other here.1 there)

-- What no item passes, none of them does.
pub none_of_all : (p : Item → Bool) (items : List Item)
    → AllByRecursion (λ item. p item ≡ false) items → list_any p items ≡ false
none_of_all p [] all = refl
none_of_all p (item ∷ items) all = or_from _ _ all.0 (none_of_all p items all.1)

module _ (P : Item → Type 0) (most id : ℕ)
    (front : (octets : List ℕ) → length octets ≤ most → P (alone (Data id false octets None))) where
  -- All DATA of octets, where the last is one of these.
  frames_all : (count : ℕ) (octets : List ℕ) (end : Bool)
      → ((last : List ℕ) → length last ≤ most → P (alone (Data id end last None)))
      → AllByRecursion P (data_frames count most id octets end)
  unfolding data_frames
  frames_all zero octets end is = tt
  frames_all (suc count) octets end is =
      let last = alone (Data id end octets None) in
      let first = alone (Data id false (take most octets) None) in
      let others = data_frames count most id (drop most octets) end in
      cond_both (nat_le (length octets) most) (last ∷ []) (others ++ first ∷ []) (AllByRecursion P)
      (λ short. (is octets (leb-true (length octets) most short), tt))
      (λ long.
      let more = leb-false (length octets) most long in
      let fits = length-take-le most octets (omega (arith, more)) in
      all_of_both P others (first ∷ []) (frames_all count (drop most octets) end is)
      (front (take most octets) (omega (arith, fits)), tt))

  -- So it is of what a call writes of the body.
  pub body_all : (octets : List ℕ) (end : Bool) (count : ℕ)
      → ((last : List ℕ) → length last ≤ most
      → P (alone (Data id (end && count == length octets) last None)))
      → AllByRecursion P (data_items most id octets end count)
  unfolding data_items
  body_all octets end count is =
      cond_both (count == 0 && not (length octets == 0 && end)) [] _ (AllByRecursion P) (λ none. tt)
      (λ some. frames_all (suc count) (take count octets) (end && count == length octets) is)
