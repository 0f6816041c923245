-- What the table of streams answers of each number, and when two tables are the same.
use Rattle.h2_streams.proofs.Names.{◌≡◌, ℕ, Bool, true, false, cond, List, [], ◌∷◌, Option, Some}
use Rattle.h2_streams.proofs.Names.{None, IsSome, IfSome, nat_eq, refl, ap, ◌∙◌, ℤ, pos, ◌+ℤ◌, ◌-ℤ◌}
use Rattle.h2_streams.proofs.Names.{arith, nat_cmp, nat_cmp_total, unsigned_tied, option_map}
use Rattle.h2_streams.proofs.Names.{both_ways, ints, StreamEntry, active_entry, reset_entry}
use Rattle.h2_streams.proofs.Names.{StreamMap, stream_in, stream_view, view_of_kept, active_at}
use Rattle.h2_streams.proofs.Names.{is_reset, IsKeptWell, IsNearKept, Kept, active_map, with_resets}
use Rattle.std.proofs.Common.{map as each, ◌||◌, subst}
use Rattle.h2_streams.specs.declared.entry.Stream.{Stream}
use Rattle.std.specs.FinMap as map

-- what the table answers of a number, by whether it was reset, and what is kept of it
abbrev pub entry_at : (send recv : ℕ) → Bool → Option Kept → Option StreamEntry
entry_at send recv true kept = Some reset_entry
entry_at send recv false None = None
entry_at send recv false (Some kept) = Some (active_entry (view_of_kept send recv kept))

module _ (send recv : ℕ) where
  -- an entry as it is kept
  abbrev entries_of : List (ℕ × Kept) → List (ℕ × StreamEntry)
  entries_of entries = each (λ entry. (
    entry.0,
    active_entry (view_of_kept send recv entry.1),
  )) entries

  -- What is found among entries, by the test whether it is the first.
  found_by : (b : Bool) (kept : Kept) (x : Option StreamEntry) (y : Option Kept)
      → x ≡ entry_at send recv false y
      → cond b (Some (active_entry (view_of_kept send recv kept))) x ≡ entry_at send recv false
      (cond b (Some kept) y)
  found_by true kept x y same = refl
  found_by false kept x y same = same

  -- What is found among entries.
  found : (q : ℕ) (entries : List (ℕ × Kept))
      → map.find nat_cmp q (entries_of entries) ≡ entry_at send recv false (active_at q entries)
  found q [] = refl
  found q (e ∷ es) = ap (λ (b : Bool). cond b (Some (active_entry (view_of_kept send recv e.1)))
      (map.find nat_cmp q (entries_of es))) (unsigned_tied q e.0) ∙ found_by (nat_eq q e.0) e.1
      (map.find nat_cmp q (entries_of es)) (active_at q es) (found q es)

  -- What is found among the active streams.
  get_active : (q : ℕ) (entries : List (ℕ × Kept))
      → map.get (active_map send recv entries) q ≡ entry_at send recv false (active_at q entries)
  unfolding active_map
  get_active q entries = map.get-from_entries nat_cmp_total (entries_of entries) q ∙ found q entries

  -- A number that is reset, by the test whether it is the first of those.
  reset_by : (b c : Bool) (x : Option StreamEntry) (y : Option Kept) → x ≡ entry_at send recv c y
      → cond b (Some reset_entry) x ≡ entry_at send recv (b || c) y
  reset_by true c x y same = refl
  reset_by false c x y same = same

-- What the table answers of a number.
pub get_kept : (send recv q : ℕ) (entries : List (ℕ × Kept)) (numbers : List ℕ)
    → map.get (with_resets (active_map send recv entries) numbers) q
    ≡ entry_at send recv (is_reset q numbers) (active_at q entries)
unfolding with_resets
get_kept send recv q entries [] = get_active send recv q entries
get_kept send recv q entries (number ∷ numbers) =
    map.get-insert nat_cmp_total (with_resets (active_map send recv entries) numbers) number
    reset_entry q
    ∙ ap (λ (b : Bool). cond b (Some reset_entry) (map.get (with_resets (active_map send recv
    entries) numbers) q)) (unsigned_tied q number)
    ∙ reset_by send recv (nat_eq q number) (is_reset q numbers)
    (map.get (with_resets (active_map send recv entries) numbers) q) (active_at q entries)
    (get_kept send recv q entries numbers)

-- Two tables that answer alike are the same.
pub same_streams : (m n : StreamMap) → ((q : ℕ) → map.get m q ≡ map.get n q) → m ≡ n
same_streams m n same = map.same_map nat_cmp_total map.nat_cmp-IsAntisymmetric m n same

-- The stream with a number, by whether it was reset, and what is kept of it.
stream_by : (send recv : ℕ) (b : Bool) (kept : Option Kept) → (IsSome kept → b ≡ false)
    → stream_in (entry_at send recv b kept) ≡ option_map (view_of_kept send recv) kept
stream_by send recv true None apart = refl
stream_by send recv true (Some kept) apart = absurd (both_ways true (apart refl) refl)
stream_by send recv false None apart = refl
stream_by send recv false (Some kept) apart = refl

-- The stream with a number is what is kept of it, with windows as they are now.
pub stream_kept : (send recv q : ℕ) (entries : List (ℕ × Kept)) (numbers : List ℕ)
    → IsKeptWell entries numbers
    → stream_in (map.get (with_resets (active_map send recv entries) numbers) q)
    ≡ option_map (view_of_kept send recv) (active_at q entries)
stream_kept send recv q entries numbers well =
    ap stream_in (get_kept send recv q entries numbers)
    ∙ stream_by send recv (is_reset q numbers) (active_at q entries) (well.apart q)

-- Nothing is kept of a number that is neither active nor reset.
nothing_by : (send recv : ℕ) (b : Bool) (kept : Option Kept) → b ≡ false
    → stream_in (entry_at send recv b kept) ≡ None → entry_at send recv b kept ≡ None
nothing_by send recv true kept apart none = absurd (both_ways true apart refl)
nothing_by send recv false None apart none = refl
nothing_by send recv false (Some kept) apart none = absurd (cc)

-- Nothing is kept of a number that is neither active nor reset.
pub nothing_kept : (send recv q : ℕ) (entries : List (ℕ × Kept)) (numbers : List ℕ)
    → is_reset q numbers ≡ false
    → stream_in (map.get (with_resets (active_map send recv entries) numbers) q) ≡ None
    → map.get (with_resets (active_map send recv entries) numbers) q ≡ None
nothing_kept send recv q entries numbers apart none =
    let is = get_kept send recv q entries numbers in
    is ∙ nothing_by send recv (is_reset q numbers) (active_at q entries) apart (rw (is) at none)

-- The windows of what is kept of an active number are near.
pub near_found : (number : ℕ) (kept : Kept) (entries : List (ℕ × Kept)) (numbers : List ℕ)
    → IsKeptWell entries numbers → active_at number entries ≡ Some kept → IsNearKept kept
near_found number kept entries numbers well is =
    subst (λ (x : Option Kept). IfSome x IsNearKept) is (well.near number)

-- A window is its difference from an initial window, and that.
window_back : (window : ℤ) (initial : ℕ) → (window -ℤ pos initial) +ℤ pos initial ≡ window
window_back window initial = omega (arith, ints)

-- A stream that is kept by the differences of its windows is that stream.
pub stream_back : (send recv : ℕ) (stream : Stream) (send_offset recv_offset : ℤ)
    → send_offset ≡ stream.send_window -ℤ pos send
    → recv_offset ≡ stream.recv_window -ℤ pos recv
    → view_of_kept send recv (record {
      send_offset = send_offset;
      recv_offset = recv_offset;
      owed = stream.owed;
      state = stream.state;
    }) ≡ stream_view stream
stream_back send recv stream send_offset recv_offset send_is recv_is =
    rw (send_is, recv_is, window_back stream.send_window send, window_back stream.recv_window recv)
