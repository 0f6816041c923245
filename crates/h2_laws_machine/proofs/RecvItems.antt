-- After an item, whatever its verdict, an end keeps what its log says.
use Rattle.h2_laws_machine.proofs.Names
use Names.{◌≡◌, ◌≢◌, ℕ, ◌≤◌, ◌<◌, ◌%◌, ◌==◌, nat_le, not, Bool, true, false, ◌&&◌, if◌then◌else◌, ℤ}
use Names.{List, length, Option, Some, None, is_some, refl, ap, ◌∙◌, inl, inr, arith, list_any}
use Names.{both_ways, false_from_ne_true, and_parts, eqb-true, lt-ltb, leb-false, or_right}
use Names.{and_from, Code, Data, Reset, Settings, Ping, GoAway, WindowUpdate, payload_of, Item}
use Names.{alone, block, is_goaway, log_view, is_server, settings_count, Active, openings, is_used}
use Names.{is_closed_by_us, greatest_number, Log, state, Verdict, ConnectionFault, StreamFault}
use Names.{NoEvent, Reported, Decoded, verdict_by_rules, verdict_of, verdict_of_block, exceeds}
use Names.{replies_to, with_verdict, Role, Client, Server, End, after_verdict, active_parts}
use Names.{active_used, resets_used, block_below, within_window, Headers, Continuation}
use Names.{connection_recv_window, increments_read, closed_by_us_is, closed_used}
use Rattle.h2_frame.specs.Frames.{Priority, Unknown}
use Rattle.h2_laws_log.proofs.ReaderStates.{state_active, state_is_active}
use Rattle.h2_laws_log.proofs.ReplyInvariant.{idle_unused}
use Rattle.h2_laws_machine.proofs.CallOpen.{IsClear}
use Rattle.h2_laws_machine.proofs.LogCore.{Core, core, Going, active_by_items, greatest_used}
use Rattle.h2_laws_machine.proofs.RecvBlocks.{later_reported, block_ignored, closed_dead}
use Rattle.h2_laws_machine.proofs.RecvConnectionFault.{fault_after}
use Rattle.h2_laws_machine.proofs.RecvConnectionItems.{plain_ignored, ping_ignored}
use Rattle.h2_laws_machine.proofs.RecvData.{data_reported}
use Rattle.h2_laws_machine.proofs.RecvOpenings.{MayBeOpened, opening_reported}
use Rattle.h2_laws_machine.proofs.RecvPong.{pong_reported}
use Rattle.h2_laws_machine.proofs.RecvRefusals.{new_fault}
use Rattle.h2_laws_machine.proofs.RecvReset.{reset_ignored, reset_reported, data_ignored}
use Rattle.h2_laws_machine.proofs.RecvReturnedCredit.{After}
use Rattle.h2_laws_machine.proofs.RecvSettings.{settings_ignored}
use Rattle.h2_laws_machine.proofs.RecvSettingsAck.{ack_reported}
use Rattle.h2_laws_machine.proofs.RecvStreamFaults.{block_fault, data_fault, update_fault}
use Rattle.h2_laws_machine.proofs.RecvStreamItems.{goaway_reported, update_ignored}
use Rattle.h2_laws_machine.proofs.RecvVerdict.{Sound, IsUnread, recv_same}
use Rattle.h2_laws_machine.proofs.RecvVerdictCases.{block_is_reported, update_is_reported}
use Rattle.h2_laws_machine.proofs.RecvVerdictCases.{block_is_fault, reset_is_fault}
use Rattle.h2_laws_machine.proofs.RecvVerdictCases.{block_is_ignored, reset_is_reported}
use Rattle.h2_laws_machine.proofs.RecvVerdictCases.{data_is_reported, reset_is_ignored}
use Rattle.h2_laws_machine.proofs.RecvVerdictCases.{data_is_fault, data_is_ignored, update_is_fault}
use Rattle.h2_laws_machine.proofs.UpInvariantLogs.{rules_is}
use Rattle.h2_laws_machine.proofs.UpInvariantReads.{above_none, fault_reported, fault_resets}
use Rattle.h2_laws_machine.proofs.UpInvariantReads.{reported_by}
use Rattle.h2_laws_machine.proofs.WaitingOutput.{Waits}

-- A stream in the state Active is active.
pub active_in : (log : Log) (i : ℕ) → state log i ≡ Active → active_by_items (core log) i ≡ true
active_in log i is = state_is_active _ _ _ is

-- In another state it isn't.
dead_in : (log : Log) (i : ℕ) → Sound (core log) → state log i ≢ Active
    → active_by_items (core log) i ≡ false
dead_in log i sound other =
    false_from_ne_true _ (λ alive. other (state_active _ _ _ (active_used _ _ _ _ _ alive) alive))

-- An active stream's number is no greater than the greatest.
pub active_low : (c : Core) (i : ℕ) → active_by_items c i ≡ true → i ≤ greatest_used c
active_low c i alive = block_below _ _ (active_parts _ _ _ _ _ alive).opened

-- A number that was used is odd.
pub used_odd : (role : Role) (i : ℕ) (c : Core) → is_used c.role i c.received c.sent ≡ true
    → (i % 2 == 1) ≡ true
unfolding is_used
used_odd role i c used = (and_parts _ _ used).0

-- An odd number that wasn't used is above all that were.
above_used : (c : Core) (i : ℕ) → Sound c → (i % 2 == 1) ≡ true
    → is_used c.role i c.received c.sent ≡ false → greatest_used c < i
above_used c i sound odd unused =
    by (nat_le i (greatest_used c)) refl
  where
    by : (b : Bool) → nat_le i (greatest_used c) ≡ b → greatest_used c < i
    by true low = absurd (both_ways _ unused (sound.used i ∙ and_from _ _ odd low))
    by false high = leb-false i (greatest_used c) high

-- a server is a server
is_server_role : (role : Role) → is_server role ≡ true → role ≡ Server
is_server_role Client is = absurd (both_ways false refl is)
is_server_role Server is = refl

-- A new number that the peer may open is clear.
new_clear : (c : Core) (i : ℕ) → Sound c → is_server c.role ≡ true → (i % 2 == 1) ≡ true
    → is_used c.role i c.received c.sent ≡ false → IsClear c i
new_clear c i sound server odd unused =
    let some : i ≢ 0 = λ none. let one = eqb-true (i % 2) 1 odd in
    absurd (omega (arith, none, one)) in
    let clear : IsUnread i c = sound.unread i some unused in
    let come = clear.come in
    let gave = increments_read c.role i some c.received c.sent sound.with_sent in
    let rises = above_used c i sound odd unused in
    let unopened = sound.unopened i (false_from_ne_true _ (λ here.
    let low = block_below i (openings c.role c.received c.sent) here in
    absurd (omega (arith, low, rises)))) in
    record {
      ended_in = clear.unended;
      reset_in = clear.unreset;
      given = clear.increments;
      taken_in = clear.come;
      ended_out = clear.ended;
      reset_out = false_from_ne_true _ (λ was. both_ways _ unused
          (resets_used c.role i c.received c.sent sound.with_sent was));
      granted = omega (arith, gave, come);
      taken_out = clear.sent_data;
      unnamed = sound.unnamed server i;
      owed = omega (arith, unopened);
    }

-- Such a number may be opened where no GOAWAY was sent.
may_open : (c : Core) (i : ℕ) → Sound c → (is_server c.role && i % 2 == 1) ≡ true
    → is_used c.role i c.received c.sent ≡ false → list_any is_goaway c.sent ≡ false
    → MayBeOpened c i
may_open c i sound opens unused stays =
    let both = and_parts _ _ opens in
    record {
      server = is_server_role c.role both.0;
      odd = eqb-true (i % 2) 1 both.1;
      rises = above_used c i sound both.1 unused;
      clear = new_clear c i sound both.0 both.1 unused;
      below = above_none c.role i c.sent stays;
      processed = sound.last_processed both.0;
    }

-- It is closed by this end where one was sent.
closed_new : (c : Core) (i : ℕ) → Sound c → (is_server c.role && i % 2 == 1) ≡ true
    → is_used c.role i c.received c.sent ≡ false → list_any is_goaway c.sent ≡ true
    → is_closed_by_us c.role i c.sent ≡ true
unfolding is_closed_by_us
closed_new c i sound opens unused left =
    let both = and_parts _ _ opens in
    let rises = above_used _ _ sound both.1 unused in
    let last = sound.last both.0 left in
    or_right _ _ (sound.above i ∙ rw (both.0, left) (lt-ltb _ _ (omega (arith, rises, last))))

-- DATA within the connection's window is no more than the peer may send.
fits : (e : End) (c : Core) (count : ℕ) → Going e c
    → exceeds count (connection_recv_window c.received c.sent) ≡ false
    → count ≤ e.windows.recv
fits e c count g within =
    within_window e.windows.recv count (ap (λ (w : ℤ). exceeds count w) (recv_same e c g) ∙ within)

-- what there is where the test holds
some_of : {A : Type 0} (x : Option A) → is_some x ≡ true → (a : A) × (x ≡ Some a)
some_of None is = absurd (both_ways false refl is)
some_of (Some a) is = (a, refl)

-- What an item wants: a GOAWAY's last stream has 31 bits.
abbrev pub IsTypedItem : Item → Type 0
IsTypedItem item = (last code : ℕ) (debug : List ℕ) → item ≡ alone (GoAway last code debug)
    → last ≤ greatest_number

-- A block that is reported.
block_reported : (e : End) (log : Log) (decoded : Option Decoded) (i : ℕ) (end : Bool)
    (octets : List ℕ) → verdict_of_block (log_view log) i decoded ≡ Reported → Sound (core log)
    → Waits e log → Going e (core log)
    → After (after_verdict e decoded (block i end octets) Reported)
    (with_verdict log decoded (block i end octets) Reported)
unfolding after_verdict
block_reported e log None i end octets is sound w g = cc
block_reported e log (Some decoded) i end octets is sound w g =
    elim (block_is_reported (state log i) _ _ _ _ _ is) [
      | inl here ↦
          let alive = active_in log i here in
          later_reported _ _ _ _ _ octets alive (active_low (core log) i alive)
          (λ server. sound.active_taken server i alive) w g
      | inr (idle, opens, stays) ↦ opening_reported e log (Some decoded) i end octets
          (may_open (core log) i sound opens (idle_unused _ _ _ idle) stays) w g
    ]

-- A block that is a fault of its stream.
block_at_fault : (e : End) (log : Log) (decoded : Option Decoded) (i : ℕ) (end : Bool)
    (octets : List ℕ) (code : Code)
    → verdict_of_block (log_view log) i decoded ≡ StreamFault code → Sound (core log)
    → Waits e log → Going e (core log)
    → After (after_verdict e decoded (block i end octets) (StreamFault code))
    (with_verdict log decoded (block i end octets) (StreamFault code))
unfolding after_verdict
block_at_fault e log None i end octets code is sound w g = cc
block_at_fault e log (Some decoded) i end octets code is sound w g =
    elim (block_is_fault _ _ _ _ _ _ _ is) [
      | inl here ↦
          let alive = active_in log i here in
          block_fault e log (Some decoded) i end octets code alive (active_low (core log) i alive)
          (λ server. sound.active_taken server i alive) w g
      | inr (idle, opens, stays) ↦ new_fault e log (Some decoded) i end octets code
          (may_open (core log) i sound opens (idle_unused _ _ _ idle) stays) w g
    ]

-- A block that is ignored.
block_unreported : (e : End) (log : Log) (decoded : Option Decoded) (i : ℕ) (end : Bool)
    (octets : List ℕ) → verdict_of_block (log_view log) i decoded ≡ NoEvent → Sound (core log)
    → Waits e log → Going e (core log)
    → After (after_verdict e decoded (block i end octets) NoEvent)
    (with_verdict log decoded (block i end octets) NoEvent)
unfolding after_verdict
block_unreported e log None i end octets is sound w g = cc
block_unreported e log (Some decoded) i end octets is sound w g =
    elim (block_is_ignored (state log i) _ _ _ _ _ is) [
      | inl closed ↦ block_ignored _ _ _ _ _ octets (closed_by_us_is _ _ _ closed)
          (λ server. used_odd log.role i (core log) (closed_used _ _ _ closed)) w g
      | inr (idle, opens, left) ↦ block_ignored e log (Some decoded) i end octets
          (closed_new (core log) i sound opens (idle_unused _ _ _ idle) left)
          (λ server. (and_parts _ _ opens).1) w g
    ]

-- An item that is a fault of its stream.
item_at_fault : (e : End) (log : Log) (decoded : Option Decoded) (item : Item) (code : Code)
    → verdict_by_rules (log_view log) decoded item ≡ StreamFault code → Sound (core log)
    → Waits e log → Going e (core log)
    → After (after_verdict e decoded item (StreamFault code))
    (with_verdict log decoded item (StreamFault code))
unfolding verdict_by_rules after_verdict
item_at_fault e log decoded (block i end octets) code is sound w g =
    block_at_fault e log decoded i end octets code is sound w g
item_at_fault e log decoded (alone (Data i end octets pad)) code is sound w g =
    let both = data_is_fault (state log i) _ _ _ code is in
    let alive = active_in log i both.0 in
    data_fault e log decoded i end octets pad code alive
    (fits e (core log) (length (payload_of (Data i end octets pad))) g both.1)
    (λ server. sound.active_taken server i alive) w g
item_at_fault e log decoded (alone (Reset i other)) code is sound w g =
    absurd (reset_is_fault (state log i) code is)
item_at_fault e log decoded (alone (Settings false pairs)) code is sound w g =
    absurd (fault_resets _ code is)
item_at_fault e log decoded (alone (Settings true pairs)) code is sound w g =
    absurd (test_resets _ is)
  where
    test_resets : (b : Bool) → (if b then Reported else NoEvent) ≢ StreamFault code
    test_resets true is = cc
    test_resets false is = cc
item_at_fault e log decoded (alone (Ping true octets)) code is sound w g =
    absurd (test_resets _ is)
  where
    test_resets : (b : Bool) → (if b then Reported else NoEvent) ≢ StreamFault code
    test_resets true is = cc
    test_resets false is = cc
item_at_fault e log decoded (alone (WindowUpdate i increment)) code is sound w g =
    let alive = active_in log i (update_is_fault (i == 0) (state log i) increment _ _ code is) in
    update_fault _ _ _ _ _ code alive (λ server. sound.active_taken server i alive) w g
item_at_fault e log decoded (alone frame) code is sound w g = cc

-- An item without an event.
item_unreported : (e : End) (log : Log) (decoded : Option Decoded) (item : Item)
    → verdict_by_rules (log_view log) decoded item ≡ NoEvent
    → e.reading.started ≡ not (settings_count log.received == 0) → Sound (core log)
    → Waits e log → Going e (core log)
    → After (after_verdict e decoded item NoEvent) (with_verdict log decoded item NoEvent)
unfolding verdict_by_rules after_verdict replies_to
item_unreported e log decoded (block i end octets) is started sound w g =
    block_unreported e log decoded i end octets is sound w g
item_unreported e log decoded (alone (Data i end octets pad)) is started sound w g =
    let both = data_is_ignored (state log i) _ _ _ is in
    data_ignored _ _ _ _ _ _ pad (closed_dead (core log) i (closed_by_us_is _ _ _ both.0))
    (fits e (core log) (length (payload_of (Data i end octets pad))) g both.1) w g
item_unreported e log decoded (alone (Headers i end whole fragment pad priority)) is started sound w
    g = plain_ignored e log decoded (Headers i end whole fragment pad priority) refl refl w g
item_unreported e log decoded (alone (Priority i octets)) is started sound w g =
    plain_ignored e log decoded (Priority i octets) refl refl w g
item_unreported e log decoded (alone (Reset i code)) is started sound w g =
    reset_ignored e log decoded i code (dead_in log i sound (reset_is_ignored (state log i) is)) w g
item_unreported e log decoded (alone (Settings false pairs)) is started sound w g =
    settings_ignored e log decoded pairs started w g
item_unreported e log decoded (alone (Settings true pairs)) is started sound w g =
    plain_ignored e log decoded (Settings true pairs) refl refl w g
item_unreported e log decoded (alone (Ping false octets)) is started sound w g =
    ping_ignored e log decoded octets w g
item_unreported e log decoded (alone (Ping true octets)) is started sound w g =
    plain_ignored e log decoded (Ping true octets) refl refl w g
item_unreported e log decoded (alone (GoAway last code debug)) is started sound w g = cc
item_unreported e log decoded (alone (WindowUpdate i increment)) is started sound w g =
    update_ignored e log decoded i increment w g
item_unreported e log decoded (alone (Continuation i whole fragment)) is started sound w g =
    plain_ignored e log decoded (Continuation i whole fragment) refl refl w g
item_unreported e log decoded (alone (Unknown kind flags i payload)) is started sound w g =
    plain_ignored e log decoded (Unknown kind flags i payload) refl refl w g

-- An item that is reported.
item_reported : (e : End) (log : Log) (decoded : Option Decoded) (item : Item)
    → verdict_by_rules (log_view log) decoded item ≡ Reported → IsTypedItem item
    → Sound (core log) → Waits e log → Going e (core log)
    → After (after_verdict e decoded item Reported) (with_verdict log decoded item Reported)
unfolding verdict_by_rules after_verdict
item_reported e log decoded (block i end octets) is typed sound w g =
    block_reported e log decoded i end octets is sound w g
item_reported e log decoded (alone (Data i end octets pad)) is typed sound w g =
    let both = data_is_reported (state log i) _ _ _ is in
    data_reported e log decoded i end octets pad (active_in log i both.0)
    (fits e (core log) (length (payload_of (Data i end octets pad))) g both.1)
    (sound.released i) w g
item_reported e log decoded (alone (Reset i code)) is typed sound w g =
    reset_reported e log decoded i code (active_in log i (reset_is_reported (state log i) is)) w g
item_reported e log decoded (alone (Settings false pairs)) is typed sound w g =
    absurd (fault_reported _ is)
item_reported e log decoded (alone (Settings true pairs)) is typed sound w g =
    let values = some_of e.own.awaited (g.own.awaits ∙ reported_by _ is) in
    ack_reported e log decoded pairs values.0 values.1 sound.settings w g
item_reported e log decoded (alone (Ping true octets)) is typed sound w g =
    pong_reported e log decoded octets sound.pings w g
item_reported e log decoded (alone (GoAway last code debug)) is typed sound w g =
    goaway_reported e log decoded last code debug (typed last code debug refl) w g
item_reported e log decoded (alone (WindowUpdate i increment)) is typed sound w g =
    absurd (update_is_reported (i == 0) (state log i) increment _ _ is)
item_reported e log decoded (alone frame) is typed sound w g = cc

-- After an item with its verdict an end keeps what its log says.
pub item_after : (e : End) (log : Log) (decoded : Option Decoded) (item : Item) (v : Verdict)
    → verdict_of (log_view log) decoded item ≡ v → IsTypedItem item
    → e.reading.started ≡ not (settings_count log.received == 0) → Sound (core log)
    → Waits e log → Going e (core log)
    → After (after_verdict e decoded item v) (with_verdict log decoded item v)
item_after e log decoded item (ConnectionFault code) is typed started sound w g =
    fault_after e log decoded item code w sound g
item_after e log decoded item (StreamFault code) is typed started sound w g =
    item_at_fault e log decoded item code (rules_is _ _ _ _ is (λ other wrong. cc)) sound w g
item_after e log decoded item NoEvent is typed started sound w g =
    item_unreported _ _ _ _ (rules_is _ _ _ NoEvent is (λ other wrong. cc)) started sound w g
item_after e log decoded item Reported is typed started sound w g =
    item_reported _ _ _ _ (rules_is _ _ _ Reported is (λ other wrong. cc)) typed sound w g
