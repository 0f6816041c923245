-- The greatest send window of the active streams, and what it tells of all of them.
use Rattle.h2_streams.proofs.Names.{◌≡◌, ℕ, ◌+◌, ◌<◌, Bool, true, false, cond, ℤ, pos, ◌+ℤ◌, List}
use Rattle.h2_streams.proofs.Names.{[], ◌∷◌, length, Option, Some, None, IfSome, refl, sym, ap, ◌∙◌}
use Rattle.h2_streams.proofs.Names.{nat_eq, arith, slice_get, values_of, option_map, is_some}
use Rattle.h2_streams.proofs.Names.{HashMap, IsUnique, nat_eq_equiv, ints, both_ways, slice_get-map}
use Rattle.h2_streams.proofs.Names.{slice_get_within, place_from_lookup, hash_map_get_place}
use Rattle.h2_streams.proofs.Names.{StreamEntry, active_entry, reset_entry, StreamMap, view_of_kept}
use Rattle.h2_streams.proofs.Names.{active_at, is_reset, IsKeptWell, greater_of, is_far_offset}
use Rattle.h2_streams.proofs.Names.{Kept, int_lt, ◌≤ℤ◌, any_above, is_above_by_shift, above_found}
use Rattle.h2_streams.proofs.Names.{both_same}
use Rattle.h2_spec_machine.specs.End.{above_by_shift}
use Rattle.h2_streams.specs.Table.{IsGreatestOf, IsGreatestOffset}
use Rattle.h2_streams.proofs.KeptEntries.{entry_at, get_kept, near_found}
use Rattle.h2_spec_machine.proofs.SortedEntries.{any_found}
use Rattle.h2_streams.proofs.Places.{below_or_here}
use Rattle.h2_streams.proofs.TableSteps.{streams}
use Rattle.std.specs.FinMap as map

-- the greatest difference among the first of what is kept
pub record GreatestBefore (n : ℕ) (values : List Kept) (offset : ℤ) : Type 0 where
  pub most : (i : ℕ) (kept : Kept) → i < n → slice_get values i ≡ Some kept
      → kept.send_offset ≤ℤ offset
  pub place : ℕ
  pub kept : Kept
  pub found : slice_get values place ≡ Some kept
  pub same : kept.send_offset ≡ offset

abbrev pub IsGreatestBefore : ℕ → List Kept → Option ℤ → Type 0
IsGreatestBefore n values None = n ≡ 0
IsGreatestBefore n values (Some offset) = GreatestBefore n values offset

-- One more is the greatest, or the one before is, by which is greater.
more_by : (n : ℕ) (values : List Kept) (other : ℤ) (kept : Kept) (b : Bool)
    → int_lt kept.send_offset other ≡ b → GreatestBefore n values other
    → slice_get values n ≡ Some kept
    → GreatestBefore (n + 1) values (cond b other kept.send_offset)
more_by n values other kept true is before here = record {
  most = λ i k less at. below_or_here (λ v. v.send_offset ≤ℤ other) n i kept k values before.most
      here
      (grind (arith, ints)) less at;
  place = before.place;
  kept = before.kept;
  found = before.found;
  same = before.same;
}
more_by n values other kept false is before here =
    let over : other ≤ℤ kept.send_offset = grind (arith, ints) in
    record {
      most = λ i k less at. below_or_here (λ v. v.send_offset ≤ℤ kept.send_offset) n i kept k values
          (λ j m below found. let low = before.most j m below found in omega (arith, ints)) here
          (omega (arith, ints)) less at;
      place = n;
      kept = kept;
      found = here;
      same = refl;
    }

-- One more among what is kept.
pub greatest_more : (n : ℕ) (values : List Kept) (greatest : Option ℤ) (kept : Kept)
    → IsGreatestBefore n values greatest → slice_get values n ≡ Some kept
    → GreatestBefore (n + 1) values (greater_of greatest kept.send_offset)
greatest_more n values None kept before here = record {
  most = λ i k less at. below_or_here (λ v. v.send_offset ≤ℤ kept.send_offset) n i kept k values
      (λ j m below found. absurd (omega (arith, before, below))) here (omega (arith, ints)) less at;
  place = n;
  kept = kept;
  found = here;
  same = refl;
}
greatest_more n values (Some other) kept before here =
    more_by n values other kept (int_lt kept.send_offset other) refl before here

-- What is at a place among entries, by what is at that place among their values.
entry_from : (x : Option (ℕ × Kept)) (kept : Kept)
    → option_map (λ (e : ℕ × Kept). e.1) x ≡ Some kept
    → (number : ℕ) × (x ≡ Some (number, kept))
entry_from None kept is = absurd (cc)
entry_from (Some e) kept is =
    let same : e.1 ≡ kept = cc in
    (e.0, ap (λ (k : Kept). Some (e.0, k)) same)

-- What holds of each that a look-up may find holds of the one that it finds.
if_found : (P : Kept → Type 0) (x : Option Kept) → ((kept : Kept) → x ≡ Some kept → P kept)
    → IfSome x P
if_found P None each = tt
if_found P (Some kept) each = each kept refl

-- A list without values has no entries.
no_entries : (entries : List (ℕ × Kept)) → length (values_of entries) ≡ 0 → entries ≡ []
no_entries [] none = refl
no_entries (e ∷ es) none = absurd (omega (arith, none))

-- The greatest difference among all that is kept.
pub greatest_of_all : {S : Type 0} (table : HashMap ℕ Kept S) (n : ℕ) (greatest : Option ℤ)
    → IsUnique nat_eq table → n ≡ length (values_of table.entries)
    → IsGreatestBefore n (values_of table.entries) greatest
    → IsGreatestOffset table.entries greatest
greatest_of_all table n None unique all before = no_entries table.entries (sym all ∙ before)
greatest_of_all table n (Some offset) unique all before =
    let last = entry_from (slice_get table.entries before.place) before.kept
    (sym (slice_get-map (λ (e : ℕ × Kept). e.1) table.entries before.place) ∙ before.found) in
    record {
      most = λ q. if_found (λ kept. kept.send_offset ≤ℤ offset) (active_at q table.entries)
          (λ kept is.
          let place = place_from_lookup (nat_eq q) table.entries kept is in
          let at : slice_get (values_of table.entries) place.0 ≡ Some kept =
          slice_get-map (λ (e : ℕ × Kept). e.1) table.entries place.0
          ∙ ap (option_map (λ (e : ℕ × Kept). e.1)) place.2 in
          before.most place.0 kept
          (omega (arith, all, slice_get_within (values_of table.entries) place.0 kept at)) at);
      number = last.0;
      kept = before.kept;
      found = hash_map_get_place nat_eq_equiv table before.place last.0 before.kept unique last.1;
      same = before.same;
    }

-- The greatest difference is near.
pub greatest_near : (entries : List (ℕ × Kept)) (numbers : List ℕ) (offset : ℤ)
    → IsKeptWell entries numbers → IsGreatestOf entries offset → is_far_offset offset ≡ false
greatest_near entries numbers offset well is =
    let near = near_found is.number is.kept entries numbers well is.found in
    rw (← is.same) near.0

-- An entry that is brought above the greatest window is an active stream's.
pub above_by : (send recv new : ℕ) (b : Bool) (kept : Option Kept) (x : StreamEntry)
    → entry_at send recv b kept ≡ Some x → above_by_shift send new x ≡ true
    → (k : Kept) × (kept ≡ Some k)
    × (is_above_by_shift send new (Some (k.send_offset +ℤ pos send)) ≡ true)
above_by send recv new true kept x is above =
    let same : reset_entry ≡ x = cc in absurd (both_ways false refl (rw (← same) at above))
above_by send recv new false None x is above = absurd (cc)
above_by send recv new false (Some k) x is above =
    let same : active_entry (view_of_kept send recv k) ≡ x = cc in
    (k, refl, rw (← same) at above)

-- A greater difference is above where a lesser one is.
greater_above : (send new : ℕ) (low high : ℤ) → low ≤ℤ high
    → is_above_by_shift send new (Some (low +ℤ pos send)) ≡ true
    → is_above_by_shift send new (Some (high +ℤ pos send)) ≡ true
greater_above send new low high order above = grind (arith, ints)

-- A difference that is found is at most the greatest.
pub found_low : (offset : ℤ) (x : Option Kept) (k : Kept) → x ≡ Some k
    → IfSome x (λ kept. kept.send_offset ≤ℤ offset) → k.send_offset ≤ℤ offset
found_low offset x k is low = rw (is) at low

module _ (send recv : ℕ) where
  -- A stream that is kept and wasn't reset is an entry.
  entry_kept : (b : Bool) (kept : Kept) → b ≡ false
      → entry_at send recv b (Some kept) ≡ Some (active_entry (view_of_kept send recv kept))
  entry_kept true kept apart = absurd (both_ways true apart refl)
  entry_kept false kept apart = refl

  -- Whether a window is brought above the greatest is told by the greatest difference alone.
  pub above_same : (new : ℕ) (entries : List (ℕ × Kept)) (numbers : List ℕ) (greatest : Option ℤ)
      → IsKeptWell entries numbers → IsGreatestOffset entries greatest
      → any_above send new (map.entries (streams send recv entries numbers)) ≡ is_above_by_shift
      send new (option_map (λ (o : ℤ). o +ℤ pos send) greatest)
  above_same new entries numbers None well none =
      let m : StreamMap = streams send recv entries numbers in
      both_same (any_above send new (map.entries m)) false (λ some.
      let f = above_found send new (map.entries m) (map.entries_sorted m) some in
      let k = above_by send recv new (is_reset f.i numbers) (active_at f.i entries) f.x
      (sym (get_kept send recv f.i entries numbers) ∙ map.get-entries m f.i ∙ f.found) f.above in
      let nothing : active_at f.i entries ≡ None = ap (active_at f.i) none in
      let two : None ≡ Some k.0 = sym nothing ∙ k.1 in
      absurd (cc)) (λ some. absurd (both_ways false refl some))
  above_same new entries numbers (Some offset) well is =
      let m : StreamMap = streams send recv entries numbers in
      both_same (any_above send new (map.entries m))
      (is_above_by_shift send new (Some (offset +ℤ pos send))) (λ some.
      let f = above_found send new (map.entries m) (map.entries_sorted m) some in
      let k = above_by send recv new (is_reset f.i numbers) (active_at f.i entries) f.x
      (sym (get_kept send recv f.i entries numbers) ∙ map.get-entries m f.i ∙ f.found) f.above in
      greater_above send new k.0.send_offset offset (found_low offset (active_at f.i entries) k.0
      k.1 (is.most f.i)) k.2) (λ high.
      let apart = well.apart is.number (ap is_some is.found) in
      any_found send new is.number (map.entries m) (active_entry (view_of_kept send recv is.kept))
      (sym (map.get-entries m is.number) ∙ get_kept send recv is.number entries numbers
      ∙ ap (entry_at send recv (is_reset is.number numbers)) is.found
      ∙ entry_kept (is_reset is.number numbers) is.kept apart) (rw (← is.same) at high))
