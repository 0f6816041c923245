-- The least active number above another, in the table of streams.
use Rattle.h2_streams.proofs.Names
use Names.{◌≡◌, ℕ, ◌+◌, ◌^◌, ◌<◌, Bool, true, false, List, length, nat_eq, nat_lt, Option, Some}
use Names.{None, IsSome, refl, sym, ap, ◌∙◌, arith, nat_eq_equiv, HashMap, IsUnique, slice_get}
use Names.{keys_of, option_map, is_some, both_ways, ltb-true, ltb-false, slice_get-map}
use Names.{slice_get_within, place_from_lookup, hash_map_get_place, StreamEntry, active_entry}
use Names.{reset_entry, StreamMap, view_of_kept, active_at, is_reset, IsKeptWell, Kept}
use Rattle.std.proofs.Common.{◌≢◌, ◌-◌, ◌%◌, ◌≤◌, min, nat_le}
use Rattle.std.proofs.lemmas.Bool.{leb-true, leb-false, eqb-true, eqb-false}
use Rattle.h2_spec_machine.specs.Machine.{first_active, is_active_entry}
use Rattle.h2_streams.specs.Streams.{number_or_none}
use Rattle.h2_streams.specs.Table.{IsLeastAbove}
use Rattle.h2_streams.proofs.KeptEntries.{entry_at, get_kept}
use Rattle.h2_spec_machine.proofs.SortedEntries.{first_found, first_least, two_least}
use Rattle.h2_streams.proofs.Places.{below_or_here}
use Rattle.h2_streams.proofs.TableSteps.{streams}
use Rattle.std.specs.FinMap as map

-- What is found and active is an active stream.
kept_by : (send recv : ℕ) (b : Bool) (kept : Option Kept) (x : StreamEntry)
    → entry_at send recv b kept ≡ Some x → is_active_entry x ≡ true → IsSome kept
kept_by send recv true kept x is alive =
    let same : reset_entry ≡ x = cc in absurd (both_ways false refl (rw (← same) at alive))
kept_by send recv false None x is alive = absurd (cc)
kept_by send recv false (Some kept) x is alive = refl

-- The first active number of a table is among its active streams.
first_kept : (send recv above : ℕ) (entries : List (ℕ × Kept)) (numbers : List ℕ)
    → first_active above (map.entries (streams send recv entries numbers)) ≢ 0
    → IsSome (active_at (first_active above (map.entries (streams send recv entries numbers)))
    entries)
    × (above < first_active above (map.entries (streams send recv entries numbers)))
first_kept send recv above entries numbers some =
    let m : StreamMap = streams send recv entries numbers in
    let n : ℕ = first_active above (map.entries m) in
    let f = first_found above (map.entries m) (map.entries_sorted m) some in (
      kept_by send recv (is_reset n numbers) (active_at n entries) f.x
          (sym (get_kept send recv n entries numbers) ∙ map.get-entries m n ∙ f.found) f.active,
      ltb-true above n f.higher,
    )

-- An active stream is found.
found_by : (send recv : ℕ) (b : Bool) (kept : Option Kept) → (IsSome kept → b ≡ false)
    → IsSome kept
    → (x : StreamEntry) × (entry_at send recv b kept ≡ Some x) × (is_active_entry x ≡ true)
found_by send recv true kept apart some = absurd (both_ways true (apart some) refl)
found_by send recv false None apart some = absurd (both_ways false refl some)
found_by send recv false (Some kept) apart some =
    (active_entry (view_of_kept send recv kept), refl, refl)

-- The least number of the active streams above another is the first active one.
pub least_is_first : (send recv above n : ℕ) (entries : List (ℕ × Kept)) (numbers : List ℕ)
    → IsKeptWell entries numbers → above < n → IsSome (active_at n entries)
    → ((q : ℕ) → above < q → IsSome (active_at q entries) → n ≤ q)
    → n ≡ first_active above (map.entries (streams send recv entries numbers))
least_is_first send recv above n entries numbers well higher some least =
    let m : StreamMap = streams send recv entries numbers in
    let f = found_by send recv (is_reset n numbers) (active_at n entries) (well.apart n) some in
    two_least n (first_active above (map.entries m))
    (λ _. first_least above n (map.entries m) f.0 (map.entries_sorted m)
    (sym (map.get-entries m n) ∙ get_kept send recv n entries numbers ∙ f.1) f.2 higher)
    (λ there. let k = first_kept send recv above entries numbers there in (
      (λ is. absurd (omega (arith, is, higher))),
      least (first_active above (map.entries m)) k.1
          k.0,
    ))

-- Where no stream above a number is active, there is no first one.
pub none_is_first : (send recv above : ℕ) (entries : List (ℕ × Kept)) (numbers : List ℕ)
    → ((q : ℕ) → above < q → active_at q entries ≡ None)
    → 0 ≡ first_active above (map.entries (streams send recv entries numbers))
none_is_first send recv above entries numbers none =
    let m : StreamMap = streams send recv entries numbers in
    two_least 0 (first_active above (map.entries m)) (λ some. absurd (some refl))
    (λ there. let k = first_kept send recv above entries numbers there in
    absurd (both_ways false refl (rw (none (first_active above (map.entries m)) k.1) at k.0)))

-- what is known of the first of the numbers: `least` is how far the least above another is past the
-- next one, or, where none is, how far the greatest number would be, and one more
pub record LeastBefore (n above : ℕ) (numbers : List ℕ) (least : ℕ) : Type 0 where
  pub small : (i q : ℕ) → i < n → slice_get numbers i ≡ Some q → q < 2 ^ 32
  pub most : (i q : ℕ) → i < n → slice_get numbers i ≡ Some q → above < q → above + 1 + least ≤ q
  pub within : least + above < 2 ^ 32
  pub found : least + above + 1 < 2 ^ 32 → (place : ℕ) × (slice_get numbers place ≡ Some (above + 1
      + least))

-- One more number, where the least stays.
stays : (n above number least : ℕ) (numbers : List ℕ) → number < 2 ^ 32
    → (above < number → above + 1 + least ≤ number) → LeastBefore n above numbers least
    → slice_get numbers n ≡ Some number → LeastBefore (n + 1) above numbers least
stays n above number least numbers small most before here = record {
  small = λ i q less at. below_or_here (λ r. r < 2 ^ 32) n i number q numbers before.small here
      small less at;
  most = λ i q less at. below_or_here (λ r. above < r → above + 1 + least ≤ r) n i number q numbers
      before.most here most less at;
  within = before.within;
  found = before.found;
}

-- One more number, which is less than the least.
moves : (n above number least new : ℕ) (numbers : List ℕ) → number < 2 ^ 32
    → above + 1 + new ≡ number → new < least → LeastBefore n above numbers least
    → slice_get numbers n ≡ Some number → LeastBefore (n + 1) above numbers new
moves n above number least new numbers small same less_than before here = record {
  small = λ i q less at. below_or_here (λ r. r < 2 ^ 32) n i number q numbers before.small here
      small less at;
  most = λ i q less at. below_or_here (λ r. above < r → above + 1 + new ≤ r) n i number q numbers
      (λ j r below found high. let most = before.most j r below found high in
      omega (arith, most, less_than)) here (λ high. omega (arith, same)) less at;
  within = omega (arith, same, small);
  found = λ more. (n, here ∙ ap (λ (q : ℕ). Some q) (sym same));
}

-- A number above another wraps to how far it is past the next one.
wraps : (above number : ℕ) → above < number → number < 2 ^ 32
    → (number + (2 ^ 32 - 1 - above)) % 2 ^ 32 ≡ number - above - 1
wraps above number high small = omega (arith, high, small)

-- A number that isn't above another doesn't wrap.
doesn't_wrap : (above number : ℕ) → number ≤ above → above < 2 ^ 32
    → (number + (2 ^ 32 - 1 - above)) % 2 ^ 32 ≡ number + (2 ^ 32 - 1 - above)
doesn't_wrap above number low small = omega (arith, low, small)

-- One more number, by whether it is above the other, and what it wraps to less than the least.
more_by : (n above number least : ℕ) (numbers : List ℕ) (b c : Bool) → above < 2 ^ 32
    → number < 2 ^ 32 → nat_lt above number ≡ b
    → nat_le least ((number + (2 ^ 32 - 1 - above)) % 2 ^ 32) ≡ c
    → LeastBefore n above numbers least → slice_get numbers n ≡ Some number
    → LeastBefore (n + 1) above numbers (min least ((number + (2 ^ 32 - 1 - above)) % 2 ^ 32))
more_by n above number least numbers true true fits small is by before here =
    let high : above < number = ltb-true above number is in
    let low = leb-true least ((number + (2 ^ 32 - 1 - above)) % 2 ^ 32) by in
    let same : min least ((number + (2 ^ 32 - 1 - above)) % 2 ^ 32) ≡ least = omega (arith, low) in
    let most : above + 1 + least ≤ number = omega (arith, low, wraps above number high small) in
    rw (same) (stays n above number least numbers small (λ _. most) before here)
more_by n above number least numbers true false fits small is by before here =
    let high : above < number = ltb-true above number is in
    let low = leb-false least ((number + (2 ^ 32 - 1 - above)) % 2 ^ 32) by in
    let wrapped = wraps above number high small in
    let same : min least ((number + (2 ^ 32 - 1 - above)) % 2 ^ 32) ≡ number - above - 1 =
    omega (arith, low, wrapped) in
    let less : number - above - 1 < least = omega (arith, low, wrapped) in
    rw (same) (moves n above number least (number - above - 1) numbers small (omega (arith, high))
    less before here)
more_by n above number least numbers false c fits small is by before here =
    let low : number ≤ above = ltb-false above number is in
    let within = before.within in
    let same : min least ((number + (2 ^ 32 - 1 - above)) % 2 ^ 32) ≡ least =
    omega (arith, low, within, doesn't_wrap above number low fits) in
    rw (same) (stays n above number least numbers small (λ high. absurd (omega (arith, low, high)))
    before here)

-- One more among the numbers.
pub least_more : (n above number least : ℕ) (numbers : List ℕ) → above < 2 ^ 32 → number < 2 ^ 32
    → LeastBefore n above numbers least → slice_get numbers n ≡ Some number
    → LeastBefore (n + 1) above numbers (min least ((number + (2 ^ 32 - 1 - above)) % 2 ^ 32))
least_more n above number least numbers fits small before here =
    more_by n above number least numbers (nat_lt above number)
    (nat_le least ((number + (2 ^ 32 - 1 - above)) % 2 ^ 32)) fits small refl refl before here

-- Of no numbers, none is above another.
pub least_at_first : (above : ℕ) (numbers : List ℕ) → above < 2 ^ 32
    → LeastBefore 0 above numbers (2 ^ 32 - 1 - above)
least_at_first above numbers fits = record {
  small = λ i q less at. absurd (omega (arith, less));
  most = λ i q less at. absurd (omega (arith, less));
  within = omega (arith, fits);
  found = λ more. absurd (omega (arith, more, fits));
}

-- What is at a place among entries, by what is at that place among their keys.
entry_from : (x : Option (ℕ × Kept)) (number : ℕ)
    → option_map (λ (e : ℕ × Kept). e.0) x ≡ Some number
    → (kept : Kept) × (x ≡ Some (number, kept))
entry_from None number is = absurd (cc)
entry_from (Some e) number is =
    let same : e.0 ≡ number = cc in
    (e.1, ap (λ (n : ℕ). Some (n, e.1)) same)

-- An active number stands at a place among the keys.
key_place : (q : ℕ) (entries : List (ℕ × Kept)) (x : Option Kept) → active_at q entries ≡ x
    → IsSome x
    → (i : ℕ) × (i < length (keys_of entries)) × (slice_get (keys_of entries) i ≡ Some q)
key_place q entries None is some = absurd (both_ways false refl some)
key_place q entries (Some kept) is some =
    let place = place_from_lookup (nat_eq q) entries kept is in
    let same : q ≡ place.1 = eqb-true q place.1 place.3 in
    let at : slice_get (keys_of entries) place.0 ≡ Some q =
    slice_get-map (λ (e : ℕ × Kept). e.0) entries place.0
    ∙ ap (option_map (λ (e : ℕ × Kept). e.0)) place.2
    ∙ ap (λ (n : ℕ). Some n) (sym same) in
    (place.0, slice_get_within (keys_of entries) place.0 q at, at)

-- Nothing is found where nothing may be.
none_by : (x : Option Kept) → (IsSome x → ⊥) → x ≡ None
none_by None never = refl
none_by (Some kept) never = absurd (never refl)

-- Where the least isn't below what is left above a number, none is above it.
pub none_of_all : (entries : List (ℕ × Kept)) (n above least : ℕ)
    → n ≡ length (keys_of entries) → LeastBefore n above (keys_of entries) least
    → 2 ^ 32 - 1 - above ≤ least → IsLeastAbove above entries None
none_of_all entries n above least all before over = λ q high. none_by (active_at q entries)
    (λ some. let place = key_place q entries (active_at q entries) refl some in
    let most = before.most place.0 q (omega (arith, all, place.1)) place.2 high in
    let small = before.small place.0 q (omega (arith, all, place.1)) place.2 in
    omega (arith, most, small, over))

-- The least number above another among all that is kept.
pub least_of_all : {S : Type 0} (table : HashMap ℕ Kept S) (n above least : ℕ)
    → IsUnique nat_eq table → n ≡ length (keys_of table.entries)
    → LeastBefore n above (keys_of table.entries) least → least < 2 ^ 32 - 1 - above
    → IsLeastAbove above table.entries (Some (above + 1 + least))
least_of_all table n above least unique all before less =
    let place = before.found (omega (arith, less)) in
    let last = entry_from (slice_get table.entries place.0) (above + 1 + least)
    (sym (slice_get-map (λ (e : ℕ × Kept). e.0) table.entries place.0) ∙ place.1) in (
      omega arith,
      ap is_some (hash_map_get_place nat_eq_equiv table place.0 (above + 1 + least) last.0 unique
          last.1),
      λ q high some.
          let place = key_place q table.entries (active_at q table.entries) refl some in
          before.most place.0 q (omega (arith, all, place.1)) place.2 high,
    )

-- The next number is the least above one, if it is active.
pub first_is_least : (above first : ℕ) (entries : List (ℕ × Kept)) → first ≡ above + 1
    → is_some (active_at first entries) ≡ true → IsLeastAbove above entries (Some first)
first_is_least above first entries is some =
    (omega (arith, is), some, λ q high _. omega (arith, is, high))

-- The one after the next is the least above one, if it is active and the next isn't.
pub second_is_least : (above first second : ℕ) (entries : List (ℕ × Kept)) → first ≡ above + 1
    → second ≡ first + 1 → is_some (active_at first entries) ≡ false
    → is_some (active_at second entries) ≡ true → IsLeastAbove above entries (Some second)
second_is_least above first second entries is then_is none some =
    (omega (arith, is, then_is), some, λ q high there. go q high there (nat_eq q first) refl)
  where
    go : (q : ℕ) → above < q → IsSome (active_at q entries) → (b : Bool) → nat_eq q first ≡ b
        → second ≤ q
    go q high there true same =
        let one : q ≡ first = eqb-true q first same in
        absurd (both_ways (is_some (active_at first entries)) none (rw (one) at there))
    go q high there false same =
        let other = eqb-false q first same in omega (arith, is, then_is, high, other)

-- The least number above another is the first active one.
pub least_first : (send recv above : ℕ) (entries : List (ℕ × Kept)) (numbers : List ℕ)
    (least : Option ℕ) → IsKeptWell entries numbers → IsLeastAbove above entries least
    → number_or_none least ≡ first_active above (map.entries (streams send recv entries numbers))
least_first send recv above entries numbers None well none =
    none_is_first send recv above entries numbers none
least_first send recv above entries numbers (Some least) well is =
    least_is_first send recv above least entries numbers well is.0 is.1 is.2
