-- What the rules say of an end, by the verdict on an item or by a call that isn't refused: which
-- stream is active, which number was used, and what fits.
use Rattle.h2_laws_machine.proofs.Names
use Names.{◌≡◌, ◌≢◌, ℕ, ◌+◌, ◌<◌, ◌≤◌, ◌==◌, ◌%◌, nat_lt, nat_le, ◌&&◌, ◌||◌, if◌then◌else◌, Bool}
use Names.{true, false, List, pos, length, Option, Some, None, refl, subst, ap, inl, inr, arith}
use Names.{not, and_parts, nat_tests, ints, stream_of, Frame, Data, Reset, Settings, Ping, GoAway}
use Names.{WindowUpdate, Code, Item, alone, Decoded, overflows_by, replies_to, verdict_by_rules}
use Names.{verdict_of, stream_of_item, encoding_of_item, encoding_of_items, max_resets, max_output}
use Names.{is_server, Idle, Active, greatest_number, Verdict, StreamFault, NoEvent}
use Names.{connection_update_verdict, update_verdict, StreamView, greatest_window, end_view, End}
use Names.{StreamEntry, active_entry, reset_entry, stream_in, stream_at, state_by_entry, state_at}
use Names.{number_after, is_fresh, NoneAboveHighest, size_of, overflows_stream, max_frame_size_sent}
use Rattle.std.proofs.Common.{ltb-true, ltb-false, eqb-true}
use Rattle.h2_laws_log.proofs.RulesByTests.{second_false, not_above, NoConnectionFault, few_of_own}
use Rattle.h2_laws_log.proofs.RulesByTests.{within_limits, fits_by}
use Rattle.h2_spec_log.specs.ItemRules.{is_stream_fault}
use Rattle.h2_laws_machine.proofs.RecvVerdictCases.{OnActiveOrNew, data_is_fault, reset_is_fault}
use Rattle.h2_laws_machine.proofs.RecvVerdictCases.{update_is_fault}
use Rattle.std.specs.FinMap as map

-- Items fit where the output keeps to its limit with them.
abbrev pub HasSpace : End → List Item → Type 0
HasSpace e items =
    length e.output.waiting ≤ max_output
    → length e.output.waiting + size_of (end_view e).max_payload items ≤ max_output

-- What is replied is written alike, whatever the greatest payload is.
replies_alike : (most other : ℕ) (v : Verdict) (item : Item)
    → encoding_of_items most (replies_to v item) ≡ encoding_of_items other (replies_to v item)
unfolding replies_to encoding_of_items encoding_of_item
replies_alike most other NoEvent (alone (Settings false pairs)) = refl
replies_alike most other NoEvent (alone (Ping false octets)) = refl
replies_alike most other v item = refl

-- The verdict on an item that isn't that of a limit is the one by the rules; what is replied fits;
-- and fewer streams were reset than may be, where it is a fault of one.
pub verdict_says : (e : End) (decoded : Option Decoded) (item : Item) (u : Verdict)
    → verdict_of (end_view e) decoded item ≡ u → NoConnectionFault u
    → (verdict_by_rules (end_view e) decoded item ≡ u) × HasSpace e (replies_to u item)
    × ((is_stream_fault u && nat_le max_resets e.streams.resets) ≡ false)
unfolding verdict_of
verdict_says e decoded item u is continues =
    let limits = within_limits _ _ _ _ u is continues in (
      limits.0,
      subst (λ (v : Verdict). HasSpace e (replies_to v item)) limits.0
          (λ within. rw (replies_alike (end_view e).max_payload max_frame_size_sent
          (verdict_by_rules (end_view e) decoded item) item) (fits_by _ _ limits.2 within)),
      subst (λ (v : Verdict). (is_stream_fault v && nat_le max_resets e.streams.resets) ≡ false)
          limits.0 limits.1,
    )

-- The verdict on an item that isn't that of a limit is the one by the rules.
pub verdict_within_limits : (e : End) (decoded : Option Decoded) (item : Item) (u : Verdict)
    → verdict_of (end_view e) decoded item ≡ u → NoConnectionFault u
    → verdict_by_rules (end_view e) decoded item ≡ u
verdict_within_limits e decoded item u is continues = (verdict_says e decoded item u is continues).0

-- An active number has a stream, by its entry.
active_stream_by : (x : Option StreamEntry) (idle above : Bool)
    → state_by_entry x idle above ≡ Active
    → (stream : StreamView) × (stream_in x ≡ Some stream)
active_stream_by (Some (active_entry stream)) idle above active = (stream, refl)
active_stream_by None false true active = absurd (cc)
active_stream_by x idle above active = absurd (cc)

-- An active number has a stream.
pub active_stream : (e : End) (i : ℕ) → state_at e i ≡ Active
    → (stream : StreamView) × (stream_at e i ≡ Some stream)
active_stream e i active = active_stream_by _ (i % 2 == 0 || nat_lt e.streams.highest i) _ active

-- An active stream's number was used, by the test.
active_used_by : (e : End) (i : ℕ) (stream : StreamView) → stream_at e i ≡ Some stream
    → NoneAboveHighest e → (b : Bool) → nat_lt e.streams.highest i ≡ b → i ≤ e.streams.highest
active_used_by e i stream active clear true above =
    let none : stream_at e i ≡ None = ap stream_in (clear i (ltb-true e.streams.highest i above)) in
    absurd (cc)
active_used_by e i stream active clear false within = ltb-false e.streams.highest i within

-- An active stream's number was used.
pub active_used : (e : End) (i : ℕ) (stream : StreamView) → stream_at e i ≡ Some stream
    → NoneAboveHighest e → i ≤ e.streams.highest
active_used e i stream active clear =
    active_used_by e i stream active clear (nat_lt e.streams.highest i) refl

-- So was the number of a stream in the active state.
state_used : (e : End) (i : ℕ) → state_at e i ≡ Active → NoneAboveHighest e → i ≤ e.streams.highest
state_used e i active = let stream = active_stream e i active in active_used e i stream.0 stream.1

-- A fresh number is above all that were used.
pub above_used : (e : End) (i : ℕ) → is_fresh e i ≡ true → e.streams.highest < i
above_used e i fresh = ltb-true e.streams.highest i (and_parts _ _ fresh).1

-- The number of an active stream, or of one that the peer opens, is used then, by the test whether
-- it is fresh.
pub used_then : (e : End) (i : ℕ) (left : Bool)
    → OnActiveOrNew (state_at e i) (is_server e.role && i % 2 == 1) left false
    → (b : Bool) → is_fresh e i ≡ b
    → ((j : ℕ) → (if b then i else e.streams.highest) < j → map.get e.streams.entries j ≡ None)
    → i ≤ (if b then i else e.streams.highest)
used_then e i left either true fresh clear = omega arith
used_then e i left (inl active) false stale clear = state_used e i active clear
used_then e i left (inr (idle, opens, same)) false stale clear =
    ltb-false _ _ (second_false (is_server e.role && i % 2 == 1) _ stale opens)

-- A block that is reported where no stream is active has a number other than 0, and finds fewer
-- active than may be.
pub block_opens : (e : End) (i : ℕ) (left : Bool)
    → OnActiveOrNew (state_at e i) (is_server e.role && i % 2 == 1) left false
    → (state_at e i ≡ Idle
    → nat_le (if is_server e.role then e.own.in_force.max_streams else 0) e.streams.active_count
    ≡ false)
    → stream_at e i ≡ None → (i ≢ 0) × (e.streams.active_count < e.own.in_force.max_streams)
block_opens e i left (inl active) few none =
    let stream = active_stream e i active in let wrong = stream.1 in absurd (cc)
block_opens e i left (inr (idle, opens, same)) few none =
    let odd : i % 2 ≡ 1 = eqb-true (i % 2) 1 (and_parts (is_server e.role) _ opens).1 in
    (λ zero. omega (arith, odd, zero), few_of_own (is_server e.role) _ _ (few idle))

-- A frame is a fault of a stream only where that was used.
pub frame_used : (e : End) (decoded : Option Decoded) (frame : Frame) (code : Code)
    → verdict_by_rules (end_view e) decoded (alone frame) ≡ StreamFault code
    → NoneAboveHighest e → stream_of_item (alone frame) ≤ e.streams.highest
unfolding verdict_by_rules stream_of_item stream_of
frame_used e decoded (Data i end octets pad) code is clear =
    state_used e i (data_is_fault _ _ _ _ code is).0 clear
frame_used e decoded (Reset i other) code is clear = absurd (reset_is_fault (state_at e i) code is)
frame_used e decoded (Settings ack pairs) code is clear = omega arith
frame_used e decoded (Ping ack octets) code is clear = omega arith
frame_used e decoded (GoAway last other debug) code is clear = omega arith
frame_used e decoded (WindowUpdate i increment) code is clear =
    state_used e i (update_is_fault (i == 0) (state_at e i) increment _ _ code is) clear
frame_used e decoded frame code is clear = cc

-- An increment that is no fault leaves an active stream's window at most the greatest, by the
-- entry.
update_by : (x : Option StreamEntry) (idle above : Bool) (increment : ℕ)
    → update_verdict (state_by_entry x idle above) increment
    (overflows_stream increment (stream_in x)) ≡ NoEvent
    → overflows_stream increment (stream_in x) ≡ false
unfolding update_verdict
update_by None idle above increment is = refl
update_by (Some reset_entry) idle above increment is = refl
update_by (Some (active_entry stream)) idle above increment is =
    not_above (increment == 0) _ _ _ is (λ same. cc) (λ same. cc)

-- An increment that is no fault is within its window, by the test whether it is the connection's.
pub update_fits : (e : End) (i increment : ℕ) (b : Bool) → (i == 0) ≡ b
    → (if b then connection_update_verdict increment (overflows_by increment (pos e.windows.send))
    else update_verdict (state_at e i) increment (overflows_stream increment (stream_at e i)))
    ≡ NoEvent
    → (b ≡ true → e.windows.send + increment ≤ greatest_window)
    × (i ≢ 0 → overflows_stream increment (stream_at e i) ≡ false)
unfolding connection_update_verdict
update_fits e i increment true zero is =
    let within : overflows_by increment (pos e.windows.send) ≡ false =
    not_above (increment == 0) _ _ _ is (λ same. cc) (λ same. cc) in
    (λ same. omega (arith, ints, within), λ apart. absurd (apart (eqb-true i 0 zero)))
update_fits e i increment false zero is =
    (λ same. absurd (cc), λ apart. update_by (map.get e.streams.entries i) _ _ increment is)

-- A client's next number is above those that were used.
next_above : (used : ℕ) → used < number_after used
next_above used = grind (arith, nat_tests)

-- A client that may open a stream has fewer active than are allowed, and its next number is above
-- those that were used and has 31 bits, by the tests.
pub client_opens_by : (server full : Bool) (used : ℕ) → (not server && full) ≡ false
    → (server || nat_lt greatest_number (if server then 0 else number_after used)) ≡ false
    → (full ≡ false) × (used < (if server then 0 else number_after used))
    × ((if server then 0 else number_after used) ≤ greatest_number)
client_opens_by true full used few none = absurd (cc)
client_opens_by false full used few none = (few, next_above used, ltb-false _ _ none)
