-- What is known of an end whose values are sound.
use Rattle.h2_core.proofs.Names.{◌≡◌, ◌<◌, ◌≤◌, ◌^◌, ◌+◌, ℕ, Bool, true, false, List, [], ◌∷◌}
use Rattle.h2_core.proofs.Names.{Option, Some, None, length, sym, ap, ◌∙◌, arith, ints, StreamView}
use Rattle.h2_core.proofs.Names.{StreamEntry, active_entry, reset_entry, End, stream_in, stream_at}
use Rattle.h2_core.proofs.Names.{StreamIsInRange, is_far, IsSoundEnd}
use Rattle.std.proofs.Common.{cond}
use Rattle.std.specs.Ordering.{nat_cmp, is_eq}
use Rattle.h2_spec_machine.specs.End.{owed_sum}
use Rattle.h2_laws_machine.specs.Ranges.{count_active}
use Rattle.std.specs.FinMap as map

-- one for a stream
abbrev one_of : Option StreamView → ℕ
one_of None = 0
one_of (Some stream) = 1

-- what a stream owes, where there is one
abbrev pub owed_of : Option StreamView → ℕ
owed_of None = 0
owed_of (Some stream) = stream.owed

-- An entry that is found by a test is counted, or one after it is.
counted_by : (test : Bool) (i : ℕ) (entry : StreamEntry) (found : Option StreamEntry)
    (entries : List (ℕ × StreamEntry)) → one_of (stream_in found) ≤ count_active entries
    → one_of (stream_in (cond test (Some entry) found)) ≤ count_active ((i, entry) ∷ entries)
unfolding count_active
counted_by true i (active_entry stream) found entries h = omega arith
counted_by true i reset_entry found entries h = omega arith
counted_by false i (active_entry stream) found entries h = omega arith
counted_by false i reset_entry found entries h = h

-- An active entry that is found is counted.
found_is_counted : (i : ℕ) (entries : List (ℕ × StreamEntry))
    → one_of (stream_in (map.find nat_cmp i entries)) ≤ count_active entries
unfolding count_active
found_is_counted i [] = omega arith
found_is_counted i (entry ∷ entries) =
    counted_by (is_eq (nat_cmp i entry.0)) entry.0 entry.1 (map.find nat_cmp i entries) entries
    (found_is_counted i entries)

-- What an entry owes that is found by a test is in the sum.
owed_by : (test : Bool) (i : ℕ) (entry : StreamEntry) (found : Option StreamEntry) (entries : List
    (ℕ × StreamEntry))
    → owed_of (stream_in found) ≤ owed_sum entries
    → owed_of (stream_in (cond test (Some entry) found)) ≤ owed_sum ((i, entry) ∷ entries)
unfolding owed_sum
owed_by true i (active_entry stream) found entries h = omega arith
owed_by true i reset_entry found entries h = omega arith
owed_by false i entry found entries h = omega arith

-- What an entry owes that is found is in the sum.
found_owes : (i : ℕ) (entries : List (ℕ × StreamEntry))
    → owed_of (stream_in (map.find nat_cmp i entries)) ≤ owed_sum entries
unfolding owed_sum
found_owes i [] = omega arith
found_owes i (entry ∷ entries) =
    owed_by (is_eq (nat_cmp i entry.0)) entry.0 entry.1 (map.find nat_cmp i entries) entries
    (found_owes i entries)

-- A stream is the one that is found in the list of entries.
found_in : (e : End) (i : ℕ) (stream : StreamView) → stream_at e i ≡ Some stream
    → stream_in (map.find nat_cmp i (map.entries e.streams.entries)) ≡ Some stream
found_in e i stream active = ap stream_in (sym (map.get-entries e.streams.entries i)) ∙ active

module _ (e : End) where
  -- Where a stream is active, one at least is counted.
  pub counted : (i : ℕ) (stream : StreamView) → IsSoundEnd e → stream_at e i ≡ Some stream
      → 1 ≤ e.streams.active_count
  counted i stream sound active = omega (
    arith,
    found_is_counted i (map.entries e.streams.entries),
    ap one_of (found_in e i stream active),
    sound.counts.active,
  )

  -- The connection's receive window, what is unreturned and what one stream owes are the greatest
  -- window at most.
  pub owed_fits : (i : ℕ) (stream : StreamView) → IsSoundEnd e → stream_at e i ≡ Some stream
      → e.windows.recv + (e.windows.unreturned + stream.owed) ≤ 2147483647
  owed_fits i stream sound active = omega (
    arith,
    found_owes i (map.entries e.streams.entries),
    ap owed_of (found_in e i stream active),
    sound.window.whole,
    sound.ranges.granted,
  )

  pub connection_fits : IsSoundEnd e → e.windows.recv + e.windows.unreturned ≤ 2147483647
  connection_fits sound = omega (arith, sound.window.whole, sound.ranges.granted)

  -- The windows of a stream in range are near zero.
  near_send : (stream : StreamView) → StreamIsInRange e stream → is_far stream.send_window ≡ false
  near_send stream range = grind (arith, ints)

  near_recv : (stream : StreamView) → StreamIsInRange e stream
      → e.own.in_force.initial_window < 2 ^ 31 → is_far stream.recv_window ≡ false
  near_recv stream range small = grind (arith, ints)

  -- The windows of an active stream are near zero.
  pub send_near : (i : ℕ) (stream : StreamView) → IsSoundEnd e → stream_at e i ≡ Some stream
      → is_far stream.send_window ≡ false
  send_near i stream sound active = near_send stream (sound.ranges.streams i stream active)

  pub recv_near : (i : ℕ) (stream : StreamView) → IsSoundEnd e → stream_at e i ≡ Some stream
      → is_far stream.recv_window ≡ false
  recv_near i stream sound active = near_recv stream (sound.ranges.streams i stream active)
      (omega (arith, sound.ranges.own_window))

-- Nothing is kept of a number that was not used.
pub absent_above : (e : End) (i : ℕ) → IsSoundEnd e → e.streams.highest < i
    → map.get e.streams.entries i ≡ None
absent_above e i sound above = sound.window.used i above

-- Numbers of streams have 31 bits.
pub highest_small : (e : End) → IsSoundEnd e → e.streams.highest < 2 ^ 31
highest_small e sound = omega (arith, sound.ranges.highest)

pub last_small : (e : End) → IsSoundEnd e → e.streams.last_processed < 2 ^ 31
last_small e sound = omega (arith, sound.ranges.highest, sound.ranges.last_processed)

pub waiting_small : (e : End) → IsSoundEnd e → length e.output.waiting ≤ 262161
waiting_small e sound = omega (arith, sound.bounded.output)
