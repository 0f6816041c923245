-- What holds of each DATA of a stream holds of all that a call writes of a body.
use Rattle.h2_laws_pair.proofs.Names.{[], ℕ, zero, suc, ◌==◌, nat_le, not, ◌&&◌, Bool, true, false}
use Rattle.h2_laws_pair.proofs.Names.{if◌then◌else◌, List, length, take, drop, None, AllByRecursion}
use Rattle.h2_laws_pair.proofs.Names.{Data, Item, alone, data_frames, data_items, WindowUpdate, ◌∷◌}
use Rattle.h2_laws_pair.proofs.Lists.{all_both}

-- What a release writes, by whether the peer has ended the stream.
pub updates_all : (P : Item → Type 0) (id count : ℕ) (ended : Bool)
    → P (alone (WindowUpdate 0 count)) → P (alone (WindowUpdate id count))
    → AllByRecursion P (alone (WindowUpdate 0 count)
    ∷ (if ended then [] else alone (WindowUpdate id count) ∷ []))
updates_all P id count true one other = (one, tt)
updates_all P id count false one other = (one, (other, tt))

module _ (P : Item → Type 0) (id : ℕ)
    (is : (end : Bool) (octets : List ℕ) → P (alone (Data id end octets None))) where
  -- One of two lists, by a test.
  either_all : (b : Bool) (one other : List Item) → AllByRecursion P one → AllByRecursion P other
      → AllByRecursion P (if b then one else other)
  either_all true one other here there = here
  either_all false one other here there = there

  frames_all : (count most : ℕ) (octets : List ℕ) (end : Bool)
      → AllByRecursion P (data_frames count most id octets end)
  unfolding data_frames
  frames_all zero most octets end = tt
  frames_all (suc count) most octets end =
      either_all (nat_le (length octets) most) _ _ (is end octets, tt)
      (all_both P (data_frames count most id (drop most octets) end) _
      (frames_all count most (drop most octets) end) (is false (take most octets), tt))

  pub data_all : (most : ℕ) (octets : List ℕ) (end : Bool) (count : ℕ)
      → AllByRecursion P (data_items most id octets end count)
  unfolding data_items
  data_all most octets end count =
      either_all (count == 0 && not (length octets == 0 && end)) _ _ tt
      (frames_all (suc count) most (take count octets) (end && count == length octets))
