-- What GOAWAY, WINDOW_UPDATE and RST_STREAM make of an end and of its log.
use Rattle.std.specs.FinMap as map
use Rattle.h2_laws_machine.proofs.Names
use Names.{◌≡◌, zero-add, cases_eq, log_view, one_acked, with_sent, events_of, stream_at, last_none}
use Names.{ℕ, ◌≤◌, ◌+◌, pos, [], ◌∷◌, ap, sym, ◌∙◌, inl, inr, ends, Log, read, End}
use Names.{Bool, processed_by, one_settings, first_window, least_goaway, with_verdict, active_entry}
use Names.{true, ◌==◌, ◌+ℤ◌, ◌-ℤ◌, List, Some, refl, arith, ints, Item, alone, resets, total, Event}
use Names.{false, stream_of, is_block_on, is_goaway, value_read, replies_to, set_stream, least_last}
use Names.{if◌then◌else◌, WindowUpdate, increment_on, with_reported, owed_at_close, after_ignored}
use Names.{Option, ne_eqb, GoAway, data_of, flow_on, one_pong, given_on, NoEvent, Reported, Decoded}
use Names.{stream_of_item, reports_unprocessed, greatest_number, with_unreturned, widen_send_window}
use Names.{data_on, greatest_block, discarded_flow, after_reported, gives_elsewhere, increment_here}
use Rattle.h2_spec_log.specs.Events.{GoAwayEvent}
use Rattle.h2_laws_log.proofs.LogViewLemmas.{least_by}
use Rattle.h2_laws_machine.proofs.ItemsApart.{update_apart}
use Rattle.h2_laws_machine.proofs.LogCore.{said, Core, core, CoreFacts, core_facts, Advances, Going}
use Rattle.h2_laws_machine.proofs.LogCore.{active_by_items, greatest_used}
use Rattle.h2_laws_machine.proofs.OwedAtClose.{none_owing, dead_owing, zero_dead}
use Rattle.h2_laws_machine.proofs.RecvEvents.{ChangesNoStream, quiet_reported}
use Rattle.h2_laws_machine.proofs.RecvRead.{windows_read, peer_read, active_read, used_read, reads}
use Rattle.h2_laws_machine.proofs.RecvRead.{IsCommon, read_step, same_read, same_dead}
use Rattle.h2_laws_machine.proofs.RecvReturnedCredit.{After, unsettled}
use Rattle.h2_laws_machine.proofs.RecvVerdict.{stream_said, none_said}
use Rattle.h2_laws_machine.proofs.StreamsSame.{streams_same, streams_set, SameAt, active_some}
use Rattle.h2_laws_machine.proofs.StreamsSame.{same_stream}
use Rattle.h2_laws_machine.proofs.WaitingOutput.{Waits}

-- GOAWAY touches nothing of any stream.
goaway_same : (i : ℕ) (c : Core) (last code : ℕ) (debug : List ℕ)
    → SameAt i c (reads c (alone (GoAway last code debug)))
unfolding one_settings is_block_on ends resets data_on increment_on
goaway_same i c last code debug = same_read _ _ _ refl (assumption) refl

-- It opens nothing.
goaway_used : (c : Core) (last code : ℕ) (debug : List ℕ)
    → greatest_used (reads c (alone (GoAway last code debug))) ≡ greatest_used c
unfolding greatest_block
goaway_used c last code debug = used_read c.role (alone (GoAway last code debug)) c.received c.sent
    (λ items. refl)

-- What an end keeps where GOAWAY is read.
goaway_read : (h : CoreFacts) (c : Core) (last code : ℕ) (debug : List ℕ) → last ≤ greatest_number
    → Advances h c
    → Advances (record h {
      goaway = record h.goaway { received = Some (least_last last h.goaway.received) };
    }) (reads c (alone (GoAway last code debug)))
unfolding least_goaway one_settings data_of increment_on is_goaway
goaway_read h c last code debug low g =
    let item : Item = alone (GoAway last code debug) in
    record {
      reading = g.reading;
      encoder = g.encoder;
      streams = streams_same h.streams c (reads c item) (λ i. goaway_same i c last code debug)
          (goaway_used c last code debug) refl refl g.streams;
      windows = windows_read h.windows c.received c.sent c.calls c.unreturned item h.windows.send
          h.windows.recv (omega arith) (omega arith) g.windows;
      peer = peer_read h.peer c.received item refl g.peer;
      own = g.own;
      goaway = record {
        last_sent = g.goaway.last_sent;
        least_received = ap (λ (x : Option ℕ). Some (least_last last x)) g.goaway.least_received
            ∙ ap (λ (n : ℕ). Some n) (least_by _ _ _ low (last_none c.received));
      };
      ping = g.ping;
    }

-- the event of a GOAWAY is harmless
goaway_harmless : (last code : ℕ) → ChangesNoStream (GoAwayEvent last code)
unfolding one_acked one_pong reports_unprocessed
goaway_harmless last code = record { acks = refl; pongs = refl; names = λ i. refl }

-- it reports no flow, and shows nothing taken
goaway_flow : (last code j : ℕ) → flow_on j (GoAwayEvent last code) ≡ 0
unfolding flow_on
goaway_flow last code j = refl

goaway_shows : (last code : ℕ) → processed_by (GoAwayEvent last code) ≡ 0
unfolding processed_by
goaway_shows last code = refl

-- What GOAWAY makes of an end.
pub goaway_reported : (e : End) (log : Log) (decoded : Option Decoded) (last code : ℕ)
    (debug : List ℕ) → last ≤ greatest_number → Waits e log → Going e (core log)
    → After (after_reported e decoded (alone (GoAway last code debug))) (with_verdict log decoded
    (alone (GoAway last code debug)) Reported)
unfolding with_verdict after_reported replies_to events_of discarded_flow stream_of_item stream_of
    with_sent
goaway_reported e log decoded last code debug low w g =
    let item : Item = alone (GoAway last code debug) in
    let event : Event = GoAwayEvent (least_last last (log_view log).goaway_received) code in
    let dead = dead_owing log (with_reported (read log decoded item) (event ∷ [])) 0
    (zero_dead (core log)) in
    unsettled (record e {
      goaway = record e.goaway { received = Some (least_last last e.goaway.received) };
    }) (read log decoded item) (event ∷ []) _ (omega arith) w g.windows.unreturned
    (quiet_reported _ (reads (core log) item) event (goaway_harmless _ code)
    (goaway_flow _ code) (goaway_shows _ code) (goaway_read (core_facts e) (core log) _ _ _ low g))

-- A WINDOW_UPDATE is neither SETTINGS nor GOAWAY.
pub update_common : (i n : ℕ) → IsCommon (alone (WindowUpdate i n))
unfolding is_goaway least_goaway one_settings
update_common i n = record { leaves = refl; least = λ items. refl; settings = refl }

-- its increment of the connection's, by the test
pub update_all : (i n : ℕ) → increment_on 0 (alone (WindowUpdate i n)) ≡ (if i == 0 then n else 0)
unfolding increment_on
update_all i n = refl

-- it takes nothing, and opens nothing
pub update_none : (i n : ℕ) → data_of (alone (WindowUpdate i n)) ≡ 0
unfolding data_of
update_none i n = refl

pub update_used : (c : Core) (i n : ℕ) → greatest_used (reads c (alone (WindowUpdate i n)))
    ≡ greatest_used c
unfolding greatest_block
update_used c i n = used_read c.role (alone (WindowUpdate i n)) c.received c.sent (λ items. refl)

-- streams are as active as before
update_active : (c : Core) (i n j : ℕ) → active_by_items (reads c (alone (WindowUpdate i n))) j
    ≡ active_by_items c j
unfolding is_block_on ends resets
update_active c i n j = active_read _ _ _ _ _ c.reported refl refl refl

-- a send window that is widened, by signed numbers
wider : (v n t s : ℕ) → (pos (v + t) -ℤ pos s) +ℤ pos n ≡ pos (v + (n + t)) -ℤ pos s
wider v n t s = omega (arith, ints)

-- the stream that is widened is what the log says
update_said : (c : Core) (i n : ℕ) → record (said c i) {
  send_window = (said c i).send_window +ℤ pos
      n;
} ≡ said (reads c (alone (WindowUpdate i n))) i
unfolding given_on total data_on ends value_read
update_said c i n =
    same_stream (record (said c i) { send_window = (said c i).send_window +ℤ pos n })
    (said (reads c (alone (WindowUpdate i n))) i) (wider _ _ _ (total (data_on i) c.sent)
    ∙ sym (ap (λ (k : ℕ). pos (value_read 4 first_window c.received + (k + total (increment_on i)
    c.received)) -ℤ pos (total (data_on i) c.sent)) (increment_here i n)))
    (rw zero-add refl) refl refl refl

-- What an end keeps where a WINDOW_UPDATE of an active stream is read.
update_active_read : (h : CoreFacts) (c : Core) (i n : ℕ) → active_by_items c i ≡ true
    → Advances h c
    → Advances (record h {
      streams = record h.streams {
        entries = map.insert h.streams.entries i
            (active_entry (record (said c i) { send_window = (said c i).send_window +ℤ pos n }));
      };
    }) (reads c (alone (WindowUpdate i n)))
unfolding one_settings
update_active_read h c i n alive g =
    let item : Item = alone (WindowUpdate i n) in
    let zero_i : increment_on 0 item ≡ 0 = update_all i n ∙ ap (λ (b : Bool). if b then n else 0)
    (ne_eqb i 0 (active_some c i alive)) in
    read_step h c item _ h.windows.send h.windows.recv (update_common i n)
    (streams_set h.streams i (record (said c i) { send_window = (said c i).send_window +ℤ pos n })
    c (reads c item) (λ j other. same_read j c item refl (update_apart i n j) (gives_elsewhere i j n
    (λ is. other (sym is)))) alive
    (update_active c i n i ∙ alive) (update_said c i n) (update_used c i n) refl refl g.streams)
    (omega (arith, zero_i)) (omega (arith, update_none i n)) g

-- What an end keeps where a WINDOW_UPDATE of no active stream is read.
update_dead_read : (h : CoreFacts) (c : Core) (i n send_window : ℕ) → active_by_items c i ≡ false
    → send_window ≡ h.windows.send + (if i == 0 then n else 0) → Advances h c
    → Advances (record h { windows = record h.windows { send = send_window } })
    (reads c (alone (WindowUpdate i n)))
unfolding one_settings
update_dead_read h c i n send_window dead wide g =
    let item : Item = alone (WindowUpdate i n) in
    read_step h c item h.streams send_window h.windows.recv (update_common i n)
    (streams_same h.streams c (reads c item) (λ j. elim (cases_eq j i) [
      | inl here ↦ same_dead j c item (rw here dead) (update_active c i n j ∙ rw here dead)
      | inr other ↦ same_read j c item refl (update_apart i n j) (gives_elsewhere i j n (λ is. other
          (sym is)))
    ]) (update_used c i n) refl refl g.streams)
    (omega (arith, wide, update_all i n)) (omega (arith, update_none i n)) g

-- A send window is widened by the test whether it is the connection's.
widened_by : (e : End) (log : Log) (i n : ℕ) (b : Bool) → i == 0 ≡ b → active_by_items (core log) i
    ≡ false → Going e (core log)
    → Going (if b then record e { windows = record e.windows { send = e.windows.send + n } } else e)
    (reads (core log) (alone (WindowUpdate i n)))
widened_by e log i n true is dead g =
    update_dead_read (core_facts e) (core log) i n (e.windows.send + n) dead
    (ap (λ (b : Bool). e.windows.send + (if b then n else 0)) (sym is)) g
widened_by e log i n false is dead g =
    update_dead_read (core_facts e) (core log) i n e.windows.send dead (rw is (omega arith)) g

-- what waits and is unreturned doesn't change, by the test
widened_waits : (e : End) (log : Log) (decoded : Option Decoded) (item : Item) (n : ℕ) (b : Bool)
    → Waits e log
    → Waits (if b then record e { windows = record e.windows { send = e.windows.send + n } } else e)
    (read log decoded item)
widened_waits e log decoded item n true w = w
widened_waits e log decoded item n false w = w

widened_unreturned : (e : End) (n : ℕ) (b : Bool)
    → (if b then record e { windows = record e.windows { send = e.windows.send + n } } else
    e).windows.unreturned ≡ e.windows.unreturned
widened_unreturned e n true = refl
widened_unreturned e n false = refl

-- What a WINDOW_UPDATE makes of an end, by the stream that is kept.
update_by : (e : End) (log : Log) (decoded : Option Decoded) (i n : ℕ) (b : Bool)
    → active_by_items (core log) i ≡ b → Waits e log → Going e (core log)
    → After (widen_send_window e i n (stream_at e i))
    (with_reported (with_unreturned (0 + owed_at_close log
    (read log decoded (alone (WindowUpdate i n))) i)
    (read log decoded (alone (WindowUpdate i n)))) [])
update_by e log decoded i n true alive w g =
    let item : Item = alone (WindowUpdate i n) in
    rw (stream_said e (core log) i g alive) (unsettled (set_stream e i (record (said (core log) i) {
      send_window = (said (core log) i).send_window +ℤ pos n;
    })) (read log decoded item) [] _
    (omega (arith, none_owing log (read log decoded item) i (update_active (core log) i n i)))
    w g.windows.unreturned (update_active_read (core_facts e) (core log) i n alive g))
update_by e log decoded i n false dead w g =
    let item : Item = alone (WindowUpdate i n) in
    rw (none_said e (core log) i g dead)
    (unsettled (if i == 0 then record e { windows = record e.windows { send = e.windows.send + n } }
    else e) (read log decoded item) [] _
    (omega (arith, none_owing log (read log decoded item) i (update_active (core log) i n i)))
    (widened_waits e log decoded item n (i == 0) w) (widened_unreturned e n (i == 0) ∙
    g.windows.unreturned) (widened_by e log i n (i == 0) refl dead g))

-- What a WINDOW_UPDATE makes of an end.
pub update_ignored : (e : End) (log : Log) (decoded : Option Decoded) (i n : ℕ) → Waits e log
    → Going e (core log)
    → After (after_ignored e decoded (alone (WindowUpdate i n))) (with_verdict log decoded
    (alone (WindowUpdate i n)) NoEvent)
unfolding with_verdict after_ignored replies_to events_of discarded_flow data_of stream_of_item
    stream_of with_sent with_reported
update_ignored e log decoded i n w g = update_by e log decoded i n (active_by_items (core log) i)
    refl w g
