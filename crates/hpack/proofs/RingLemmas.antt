-- Rings of entries, the newest at the front.
use Rattle.hpack.proofs.Names.{◌≡◌, ℕ, ◌+◌, ◌-◌, ◌/◌, ◌<◌, ◌≤◌, max, List, [], ◌∷◌, ◌++◌, length}
use Rattle.hpack.proofs.Names.{take, get_or, Option, None, Some, sym, ap, ◌∙◌, arith, take_all}
use Rattle.hpack.proofs.Names.{append_assoc, length-append, refl, slice_get, take_more}
use Rattle.hpack.proofs.Names.{slice_get_past, slice_get-get_or, Buffer, buffer, Entry, table_size}
use Rattle.hpack.proofs.SizeLemmas.{entries_are_large}

-- the last entry, and those before it
last_of_entries : (entries : List Entry) (oldest : Entry)
    → slice_get entries (length entries - 1) ≡ Some oldest
    → entries ≡ take (length entries - 1) entries ++ oldest ∷ []
last_of_entries [] oldest is =
    let nothing : List Entry = [] in
    let none : slice_get nothing (length nothing - 1) ≡ None =
    slice_get_past nothing (length nothing - 1) (omega arith) in
    absurd (cc)
last_of_entries (one ∷ others) oldest is =
    let all : List Entry = one ∷ others in
    let place : ℕ = length all - 1 in
    let last : slice_get all place ≡ Some (get_or all place oldest) =
    slice_get-get_or all place oldest (omega arith) in
    let same : get_or all place oldest ≡ oldest = (cc) in
    let count : length all ≡ place + 1 = omega arith in
    sym (take_all (length all) all (omega arith))
    ∙ (ap (λ (n : ℕ). take n all) count
    ∙ (take_more all place oldest (omega arith)
    ∙ ap (λ (o : Entry). take place all ++ o ∷ []) same))

-- The oldest entry was taken from a ring.
pub popped_oldest : (old new : Buffer Entry) (popped : Option Entry) (oldest : Entry)
    → popped ≡ slice_get old.items (length old.items - 1) → popped ≡ Some oldest
    → new ≡ buffer (take (length old.items - 1) old.items) old.capacity
    → old.items ≡ new.items ++ oldest ∷ []
popped_oldest old new popped oldest value is items =
    last_of_entries old.items oldest (sym value ∙ is)
    ∙ ap (λ (b : Buffer Entry). b.items ++ oldest ∷ []) (sym items)

-- A ring with no oldest entry is empty.
pub no_oldest : (entries : List Entry) (popped : Option Entry)
    → popped ≡ slice_get entries (length entries - 1) → popped ≡ None → entries ≡ []
no_oldest [] popped value is = refl
no_oldest (one ∷ others) popped value is =
    let all : List Entry = one ∷ others in
    let last : slice_get all (length all - 1) ≡ Some (get_or all (length all - 1) one) =
    slice_get-get_or all (length all - 1) one (omega arith) in
    absurd (cc)

-- An entry was pushed to a ring with room for it.
pub pushed_newest : (old new : Buffer Entry) (newest : Entry) → length old.items < old.capacity
    → new ≡ buffer (take old.capacity (newest ∷ old.items)) old.capacity
    → new.items ≡ newest ∷ old.items
pushed_newest old new newest room items =
    ap (λ (b : Buffer Entry). b.items) items
    ∙ take_all old.capacity (newest ∷ old.items) (omega arith)

-- what a moved entry leaves of two rings
pub record IsMoved (from to new_from new_to : Buffer Entry) (all : List Entry) : Type 0 where
  pub items : new_from.items ++ new_to.items ≡ all
  pub capacity : new_to.capacity ≡ to.capacity
  pub shorter : length new_from.items < length from.items

-- The oldest entry of a ring was moved to the front of another.
pub moved_oldest : (from to new_from new_to : Buffer Entry) (all : List Entry)
    (popped : Option Entry) (oldest : Entry)
    → from.items ++ to.items ≡ all → length all ≤ to.capacity
    → popped ≡ slice_get from.items (length from.items - 1) → popped ≡ Some oldest
    → new_from ≡ buffer (take (length from.items - 1) from.items) from.capacity
    → new_to ≡ buffer (take to.capacity (oldest ∷ to.items)) to.capacity
    → IsMoved from to new_from new_to all
moved_oldest from to new_from new_to all popped oldest joined room value is taken put =
    let split = popped_oldest from new_from popped oldest value is taken in
    let more : length from.items ≡ length new_from.items + 1 = omega (
      arith,
      ap (λ (es : List Entry). length es) split,
      length-append new_from.items (oldest ∷ []),
    ) in
    let total : length from.items + length to.items ≡ length all =
    omega (arith, ap (λ (es : List Entry). length es) joined, length-append from.items to.items) in
    let pushed = pushed_newest to new_to oldest (omega arith) put in
    record {
      items = ap (λ (es : List Entry). new_from.items ++ es) pushed
          ∙ (sym (append_assoc new_from.items (oldest ∷ []) to.items)
          ∙ (ap (λ (es : List Entry). es ++ to.items) (sym split) ∙ joined));
      capacity = ap (λ (b : Buffer Entry). b.capacity) put;
      shorter = omega (arith, more);
    }

-- Entries within a maximum fit in the ring for it.
pub entries_fit : (entries : List Entry) (maximum capacity : ℕ) → table_size entries ≤ maximum
    → capacity ≡ max (maximum / 32) 1 → length entries ≤ capacity
entries_fit entries maximum capacity within is = omega (arith, entries_are_large entries, is)

-- There is room for one more entry of this size.
pub one_more_fits : (entries : List Entry) (maximum size capacity : ℕ)
    → table_size entries ≤ maximum - size → 32 ≤ size → size ≤ maximum
    → capacity ≡ max (maximum / 32) 1 → length entries < capacity
one_more_fits entries maximum size capacity within large small is =
    omega (arith, entries_are_large entries, is)
