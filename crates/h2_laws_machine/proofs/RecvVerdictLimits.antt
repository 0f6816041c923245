-- The verdict of an item after the limits, and the number that it opens, are the same at an end as
-- at its log.
use Rattle.std.specs.FinMap as map
use Rattle.h2_laws_machine.proofs.Names
use Names.{ℤ, ◌≡◌, ℕ, ◌+◌, ◌∷◌, ap, ap₂, sym, inl, inr, Data, Ping, Item, End, Log}
use Names.{◌∙◌, list_any, and_from, or_cases, both_ways, nat_tests, stream_at, any_above, both_same}
use Names.{Bool, and_parts, payload_of, is_block_on, value_read, unreleased, verdict_of, StreamView}
use Names.{true, false, ◌==◌, List, [], Some, refl, arith, Reset, alone, block, total, State, state}
use Names.{nat_lt, above_by_shift, greatest_window, update_verdict, settings_fault, is_awaited_ping}
use Names.{if◌then◌else◌, WindowUpdate, active_entry, increment_on, reset_verdict, exceeds_stream}
use Names.{length, StreamEntry, reset_entry, first_window, data_verdict, overflows_by, active_parts}
use Names.{Option, data_on, resets, active, Verdict, NoEvent, Decoded, exceeds, ended_in, entry_by}
use Names.{or_left, connection_update_verdict, verdict_by_rules, overflows_stream, verdict_of_fault}
use Names.{or_right, eqb-true, Settings, end_view, state_at, log_view, openings, given_on, Reported}
use Rattle.h2_spec_log.specs.Windows.{is_above_greatest}
use Rattle.h2_spec_machine.proofs.SortedEntries.{above_found, any_found}
use Rattle.h2_spec_log.specs.LogView.{overflows}
use Rattle.h2_spec_log.specs.States.{any_block}
use Rattle.h2_laws_log.proofs.LogViewLemmas.{int_above}
use Rattle.h2_laws_machine.proofs.LogCore.{said, Core, core, Going}
use Rattle.h2_laws_machine.proofs.RecvVerdict.{Sound, active_said, state_same, block_verdict_same}
use Rattle.h2_laws_machine.proofs.RecvVerdict.{recv_same, send_same}
use Rattle.h2_laws_machine.proofs.ViewsAgree.{stream_same}
use Rattle.h2_laws_machine.proofs.WaitingOutput.{Waits, waits_much}

-- A number among the blocks that passes.
record Passing (test : ℕ → Bool) : Type 0 where
  pub i : ℕ
  pub passes : test i ≡ true

-- Where some block's number passes, there is one.
block_passes : (test : ℕ → Bool) (items : List Item) → any_block test items ≡ true → Passing test
unfolding any_block
block_passes test [] some = absurd (both_ways false refl some)
block_passes test (alone frame ∷ items) some = block_passes test items some
block_passes test (block stream end octets ∷ items) some =
    elim (or_cases (test stream) (any_block test items) some) [
      | inl here ↦ record { i = stream; passes = here }
      | inr after ↦ block_passes test items after
    ]

-- A block's number that passes is found.
passing_block : (test : ℕ → Bool) (i : ℕ) (items : List Item) → list_any (is_block_on i) items
    ≡ true → test i ≡ true → any_block test items ≡ true
unfolding any_block is_block_on
passing_block test i [] here passes = absurd (both_ways false refl here)
passing_block test i (alone frame ∷ items) here passes = passing_block test i items here passes
passing_block test i (block stream end octets ∷ items) here passes =
    elim (or_cases (stream == i) (list_any (is_block_on i) items) here) [
      | inl same ↦ or_left (test stream) (any_block test items) (rw (eqb-true stream i same) passes)
      | inr after ↦ or_right _ _ (passing_block test i items after passes)
    ]

-- A send window is brought above the greatest window by another initial window just where what is
-- given then is above it.
shift_above : (old new more sent_data : ℕ) → nat_lt ((greatest_window + old) + sent_data)
    ((old + more) + new) ≡ nat_lt (greatest_window + sent_data) (new + more)
shift_above old new more sent_data = grind (arith, nat_tests)

-- An active stream is brought above the greatest window just where the log says so.
said_above : (c : Core) (i new : ℕ) → above_by_shift (value_read 4 first_window c.received) new
    (active_entry (said c i))
    ≡ is_above_greatest (new + total (increment_on i) c.received) (total (data_on i) c.sent)
unfolding given_on
said_above c i new = int_above _ _ _ _ ∙ shift_above _ _ _ _

-- what is kept and above the greatest window is an active stream's
kept_is_active : (active was : Bool) (s : StreamView) (x : StreamEntry) (old new : ℕ)
    → entry_by active was s ≡ Some x → above_by_shift old new x ≡ true
    → (active ≡ true) × (x ≡ active_entry s)
kept_is_active true was s x old new is above = (refl, cc)
kept_is_active false true s x old new is above =
    let same : reset_entry ≡ x = cc in absurd (both_ways false refl (rw (← same) at above))
kept_is_active false false s x old new is above = absurd (cc)

-- Some stream is brought above the greatest window at an end just where it is at its log.
pub above_same : (e : End) (log : Log) (new : ℕ) → Going e (core log)
    → any_above e.peer.initial_window new (map.entries e.streams.entries) ≡ overflows log new
unfolding overflows
above_same e log new g =
    both_same _ _ (λ some.
    let from = above_found e.peer.initial_window new (map.entries e.streams.entries)
    (map.entries_sorted e.streams.entries) some in
    let kept : map.get e.streams.entries from.i ≡ Some from.x = map.get-entries e.streams.entries
    from.i ∙ from.found in
    let active_by_items = kept_is_active (active log from.i) (list_any (resets from.i) log.sent)
    (said (core log) from.i) from.x e.peer.initial_window new
    (sym (g.streams.entries from.i) ∙ kept) from.above in
    let above : is_above_greatest (new + total (increment_on from.i) log.received)
    (total (data_on from.i) log.sent) ≡ true = sym (said_above (core log) from.i new)
    ∙ sym (ap₂ (λ (o : ℕ) (y : StreamEntry). above_by_shift o new y) g.peer.initial_window
    active_by_items.1) ∙ from.above in
    passing_block _ from.i (openings log.role log.received log.sent) (active_parts log.role from.i
    log.received log.sent log.reported active_by_items.0).opened
    (and_from (active log from.i) _ active_by_items.0 above)) (λ some.
    let from = block_passes _ (openings log.role log.received log.sent) some in
    let both = and_parts (active log from.i) _ from.passes in
    any_found _ _ from.i (map.entries e.streams.entries) (active_entry (said (core log) from.i))
    (sym (map.get-entries e.streams.entries from.i) ∙ active_said e (core log) from.i g both.0)
    (ap (λ (o : ℕ). above_by_shift o new (active_entry (said (core log) from.i)))
    g.peer.initial_window ∙ said_above (core log) from.i new ∙ both.1))

-- The fault of SETTINGS is the same.
faults_same : (e : End) (log : Log) (pairs : List (ℕ × ℕ)) → e.role ≡ log.role → Going e (core log)
    → settings_fault (end_view e) pairs ≡ settings_fault (log_view log) pairs
unfolding settings_fault
faults_same e log [] role g = refl
faults_same e log (pair ∷ pairs) role g = rw (
  role,
  above_same e log pair.1 g,
  faults_same e log pairs role g,
) refl

module _ (e : End) (log : Log) (decoded : Option Decoded) where
  -- The verdict on an item is the same before the limits.
  verdict_same : (item : Item) → e.role ≡ log.role → Sound (core log) → Going e (core log)
      → verdict_by_rules (end_view e) decoded item ≡ verdict_by_rules (log_view log) decoded item
  unfolding verdict_by_rules unreleased
  verdict_same (block stream end octets) role sound g = block_verdict_same e log stream
      decoded role sound g
  verdict_same (alone (Data stream end octets pad)) role sound g =
      let n = length (payload_of (Data stream end octets pad)) in
      ap (λ (window : ℤ). data_verdict (state_at e stream) (exceeds n window)
      (ended_in (stream_at e stream))
      (exceeds_stream n (stream_at e stream))) (recv_same e (core log) g)
      ∙ ap (λ (s : State). data_verdict s (exceeds n (log_view log).recv_window)
      (ended_in (stream_at e stream))
      (exceeds_stream n (stream_at e stream))) (state_same e (core log) stream role sound g)
      ∙ ap (λ (s : Option StreamView). data_verdict (state log stream)
      (exceeds n (log_view log).recv_window) (ended_in s)
      (exceeds_stream n s)) (stream_same e.streams (core log) stream g.streams)
  verdict_same (alone (Reset stream code)) role sound g = ap reset_verdict
      (state_same e (core log) stream role sound g)
  verdict_same (alone (Settings false pairs)) role sound g = ap verdict_of_fault
      (faults_same e log pairs role g)
  verdict_same (alone (Settings true pairs)) role sound g = rw g.own.awaits refl
  verdict_same (alone (Ping true octets)) role sound g =
      ap (λ (ping : Option (List ℕ)). if is_awaited_ping octets ping then Reported else NoEvent)
      g.ping
  verdict_same (alone (WindowUpdate stream increment)) role sound g =
      ap₂ (λ (a b : Verdict). if stream == 0 then a else b)
      (ap (λ (window : ℤ). connection_update_verdict increment (overflows_by increment window))
      (send_same e (core log) g))
      (ap (λ (s : State). update_verdict s increment (overflows_stream increment
      (stream_at e stream))) (state_same e (core log) stream role sound g)
      ∙ ap (λ (s : Option StreamView). update_verdict (state log stream) increment
      (overflows_stream increment s)) (stream_same e.streams (core log) stream g.streams))
  verdict_same item role sound g = refl

  -- The verdict of an item is the same after the limits.
  pub over_limits_same : (item : Item) → Waits e log → Sound (core log) → Going e (core log)
      → verdict_of (end_view e) decoded item ≡ verdict_of (log_view log) decoded item
  unfolding verdict_of
  over_limits_same item waits sound g = rw (
    verdict_same item waits.same_role sound g,
    g.streams.resets,
    waits_much e log waits.output,
  ) refl
