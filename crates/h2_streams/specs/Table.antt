-- The table of streams as a value, and how its parts make it.
use Rattle.std.specs.Prelude.{ℕ, ◌^◌, ◌||◌, ◌≡◌, ◌<◌, ◌≤◌, Bool, false, ℤ, pos, ◌+ℤ◌}
use Rattle.std.specs.Prelude.{◌-ℤ◌, ◌≤ℤ◌, int_lt, nat_eq, List, [], ◌∷◌, map as each, Option}
use Rattle.std.specs.Prelude.{Some, None, IsSome, IfSome}
use Rattle.std.specs.Int.{int_max}
use Rattle.std.specs.List.{list_any}
use Rattle.std.specs.Map.{lookup}
use Rattle.std.specs.FinMap as map
use Rattle.h2_spec_log.specs.View.{StreamView}
use Rattle.h2_spec_machine.specs.End.{active_entry, reset_entry, StreamMap}
use Rattle.h2_streams.specs.declared.table.Kept.{Kept}

-- what is kept of numbers, with windows as they are now, and the initial windows in force
-- rule: 5.1 (own) What is kept of a stream is found by its number
-- rule: 5.1 (own) A change of a stream changes that stream alone
pub record TableState : Type 0 where
  pub entries : StreamMap
  pub send_initial : ℕ
  pub recv_initial : ℕ

-- a stream of the table: its windows are kept as their difference from the initial windows in force
abbrev pub view_of_kept : (send_initial recv_initial : ℕ) → Kept → StreamView
view_of_kept send_initial recv_initial kept = record {
  send_window = kept.send_offset +ℤ pos send_initial;
  recv_window = kept.recv_offset +ℤ pos recv_initial;
  owed = kept.owed;
  ended_in = kept.state.ended_in;
  ended_out = kept.state.ended_out;
}

-- the map of the active streams
unfoldable pub active_map : (send_initial recv_initial : ℕ) → List (ℕ × Kept) → StreamMap
active_map send_initial recv_initial entries = map.from_entries
    (each (λ entry. (entry.0, active_entry (view_of_kept send_initial recv_initial entry.1)))
    entries)

-- with numbers that were reset
unfoldable pub with_resets : StreamMap → List ℕ → StreamMap
with_resets streams [] = streams
with_resets streams (number ∷ numbers) = map.insert (with_resets streams numbers) number
    reset_entry

-- what is kept of an active number
abbrev pub active_at : ℕ → List (ℕ × Kept) → Option Kept
active_at number entries = lookup (nat_eq number) entries

-- Whether a number is among those that were reset.
abbrev pub is_reset : ℕ → List ℕ → Bool
is_reset number numbers = list_any (nat_eq number) numbers

-- Whether a difference of windows is further than 2^33 from zero.
abbrev pub is_far_offset : ℤ → Bool
is_far_offset offset = int_lt (pos (2 ^ 33)) offset || int_lt offset (pos 0 -ℤ pos (2 ^ 33))

abbrev pub IsNearKept : Kept → Type 0
IsNearKept kept = (is_far_offset kept.send_offset ≡ false)
    × (is_far_offset kept.recv_offset ≡ false)

-- what the table keeps true: differences of windows are near zero, and no number is both active and
-- reset
pub record IsKeptWell (entries : List (ℕ × Kept)) (numbers : List ℕ) : Type 0 where
  pub near : (number : ℕ) → IfSome (active_at number entries) IsNearKept
  pub apart : (number : ℕ) → IsSome (active_at number entries) → is_reset number numbers ≡ false

-- No difference of an active stream's send window is above this one, within 2^33 of zero.
pub record IsMost (entries : List (ℕ × Kept)) (most : ℤ) : Type 0 where
  pub near : is_far_offset most ≡ false
  pub below : (number : ℕ) → IfSome (active_at number entries) (λ kept. kept.send_offset ≤ℤ most)

-- the greater of two differences, of which there may be but one
abbrev pub greater_of : Option ℤ → ℤ → ℤ
greater_of None offset = offset
greater_of (Some other) offset = int_max other offset

-- the greatest difference of the send windows among what is kept, if anything is
pub record IsGreatestOf (entries : List (ℕ × Kept)) (offset : ℤ) : Type 0 where
  pub most : (number : ℕ) → IfSome (active_at number entries) (λ kept. kept.send_offset ≤ℤ offset)
  pub number : ℕ
  pub kept : Kept
  pub found : active_at number entries ≡ Some kept
  pub same : kept.send_offset ≡ offset

abbrev pub IsGreatestOffset : List (ℕ × Kept) → Option ℤ → Type 0
IsGreatestOffset entries None = entries ≡ []
IsGreatestOffset entries (Some offset) = IsGreatestOf entries offset

-- the least number above another among what is kept, if there is any
abbrev pub IsLeastAbove : (above : ℕ) → List (ℕ × Kept) → Option ℕ → Type 0
IsLeastAbove above entries None = (q : ℕ) → above < q → active_at q entries ≡ None
IsLeastAbove above entries (Some number) = (above < number) × IsSome (active_at number entries)
    × ((q : ℕ) → above < q → IsSome (active_at q entries) → number ≤ q)
