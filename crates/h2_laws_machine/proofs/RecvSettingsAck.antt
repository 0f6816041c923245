-- Own values come into force where their SETTINGS are acknowledged.
use Rattle.h2_laws_machine.proofs.Names
use Names.{◌≡◌, ℕ, ◌≤◌, ◌<◌, ◌+◌, ◌-◌, Bool, true, false, nat_lt, max, pos, ◌+ℤ◌, ◌-ℤ◌, List, []}
use Names.{◌∷◌, Option, Some, None, is_some, refl, ap, sym, ◌∙◌, arith, list_any, ltb-true, le-ltb}
use Names.{Settings, stream_of, Item, alone, stream_of_item, resets, Event, flow_on, one_acked}
use Names.{one_pong, reported_total, reports_unprocessed, processed_by, Values, is_server}
use Names.{settings_count, own_value, first_window, granted_on, Log, released, Reported, Decoded}
use Names.{replies_to, with_sent, with_verdict, events_of, discarded_flow, End, StreamEntry}
use Names.{active_entry, StreamView, each_entry, recv_shifted_entry, after_reported, AwaitsValues}
use Names.{entry_by, changed_entry, get_each}
use Rattle.h2_spec_log.specs.Events.{AckedEvent}
use Rattle.h2_laws_machine.proofs.EachStream.{each_by, shifted}
use Rattle.h2_laws_machine.proofs.LogCore.{said, Core, core, CoreFacts, core_facts, Advances, Going}
use Rattle.h2_laws_machine.proofs.LogCore.{confirmed, active_by_items}
use Rattle.h2_laws_machine.proofs.OwedAtClose.{dead_owing, zero_dead}
use Rattle.h2_laws_machine.proofs.RecvConnectionItems.{plain_quiet}
use Rattle.h2_laws_machine.proofs.RecvEvents.{report, active_reported, reported_kept, taken_kept}
use Rattle.h2_laws_machine.proofs.RecvRead.{quiet_read, reads}
use Rattle.h2_laws_machine.proofs.RecvReturnedCredit.{After, unsettled}
use Rattle.h2_laws_machine.proofs.StreamsSame.{count_same, same_stream}
use Rattle.h2_laws_machine.proofs.WaitingOutput.{Waits}

-- One more is acknowledged.
ack_one : (reported : List Event) → reported_total one_acked (AckedEvent ∷ reported)
    ≡ 1 + reported_total one_acked reported
unfolding reported_total one_acked
ack_one reported = refl

-- It answers no PING, reports no flow, names none and shows nothing taken.
ack_pong : one_pong AckedEvent ≡ 0
unfolding one_pong
ack_pong = refl

ack_flow : (j : ℕ) → flow_on j AckedEvent ≡ 0
unfolding flow_on
ack_flow j = refl

ack_names : (j : ℕ) → reports_unprocessed j AckedEvent ≡ false
unfolding reports_unprocessed
ack_names j = refl

ack_shows : processed_by AckedEvent ≡ 0
unfolding processed_by
ack_shows = refl

-- The stream with its shifted receive window is what the log says.
ack_said : (c : Core) (i old new count : ℕ) → old ≡ own_value 4 first_window (confirmed c) c.sent
    → new ≡ own_value 4 first_window count c.sent
    → confirmed (report c AckedEvent) ≡ count
    → record (said c i) { recv_window = ((said c i).recv_window +ℤ pos new) -ℤ pos old } ≡ said
    (report c AckedEvent) i
unfolding granted_on
ack_said c i old new count was is all =
    same_stream (record (said c i) { recv_window = ((said c i).recv_window +ℤ pos new) -ℤ pos old })
    (said (report c AckedEvent) i) refl
    (rw (was, is, all) (shifted (own_value 4 first_window (confirmed c) c.sent) _ _ _))
    (ap (λ (n : ℕ). n - released i c.calls) (sym (reported_kept (flow_on i) AckedEvent c.reported
    (ack_flow i)))) refl refl

-- What an end keeps where the values that it awaited come into force.
ack_advances : (h : CoreFacts) (c : Core) (values : Values) → h.own.awaited ≡ Some values
    → settings_count c.sent ≤ confirmed c + 1 → Advances h c
    → Advances (record h {
      streams = record h.streams {
        entries = each_entry (recv_shifted_entry
            h.own.in_force.initial_window values.initial_window) h.streams.entries;
      };
      own = record h.own { in_force = values; awaited = None };
    }) (report c AckedEvent)
ack_advances h c values waits most g =
    let w : AwaitsValues c.role c.sent values = g.own.awaited values waits in
    let some : nat_lt (confirmed c) (settings_count c.sent) ≡ true = sym g.own.awaits ∙ ap is_some
    waits in
    let above : confirmed c < settings_count c.sent = ltb-true (confirmed c) _ some in
    let all : confirmed (report c AckedEvent) ≡ settings_count c.sent = omega (arith, ack_one) in
    let pongs : reported_total one_pong (AckedEvent ∷ c.reported) ≡ reported_total one_pong
    c.reported = reported_kept one_pong AckedEvent c.reported ack_pong in
    let active : (i : ℕ) → active_by_items (report c AckedEvent) i ≡ active_by_items c i = λ i.
    active_reported c.role i c.received c.sent AckedEvent c.reported (ack_names i) in
    let first : max 1 (settings_count c.sent) ≡ settings_count c.sent = omega (arith, above) in
    let change = recv_shifted_entry h.own.in_force.initial_window values.initial_window in
    record {
      reading = g.reading;
      encoder = g.encoder;
      streams = record {
        entries = λ i. get_each change h.streams.entries i ∙ ap
            (λ (x : Option StreamEntry). changed_entry change x) (g.streams.entries i) ∙ each_by
            change (active_by_items c i) (list_any (resets i) c.sent) (said c i)
            (said (report c AckedEvent) i) refl
            (ap (λ (s : StreamView). active_entry s) (ack_said c i h.own.in_force.initial_window
            values.initial_window (settings_count c.sent) g.own.in_force.initial_window
            (sym w.initial_window) all))
            ∙ ap (λ (b : Bool). entry_by b (list_any (resets i) c.sent) (said (report c AckedEvent)
            i)) (sym (active i));
        active_count = g.streams.active_count ∙ sym (count_same _ _ _ active);
        highest = g.streams.highest;
        last_processed = g.streams.last_processed ∙ sym (taken_kept (is_server c.role) AckedEvent
            c.reported ack_shows);
        resets = g.streams.resets;
      };
      windows = g.windows;
      peer = g.peer;
      own = rw all (record {
        in_force = record {
          table_limit = sym w.table_limit;
          initial_window = sym w.initial_window;
          max_streams = λ server. sym (ap (λ (n : ℕ). own_value 3 100 n c.sent) first
              ∙ w.max_streams server);
          max_frame = sym w.max_frame;
        };
        awaits = sym (le-ltb (settings_count c.sent) (settings_count c.sent) (omega arith));
        awaited = λ others is. absurd (cc);
      });
      goaway = g.goaway;
      ping = rw pongs g.ping;
    }

-- What an end makes of an acknowledgment that it awaits.
pub ack_reported : (e : End) (log : Log) (decoded : Option Decoded) (pairs : List (ℕ × ℕ))
    (values : Values) → e.own.awaited ≡ Some values
    → settings_count log.sent ≤ confirmed (core log) + 1 → Waits e log → Going e (core log)
    → After (after_reported e decoded (alone (Settings true pairs))) (with_verdict log decoded
    (alone (Settings true pairs)) Reported)
unfolding with_verdict after_reported replies_to events_of discarded_flow stream_of_item stream_of
    with_sent
ack_reported e log decoded pairs values waits most w g =
    let item : Item = alone (Settings true pairs) in
    let dead = zero_dead (core log) in
    rw waits (unsettled _ _ (AckedEvent ∷ []) _ (omega (arith, dead_owing)) w g.windows.unreturned
    (ack_advances (core_facts e) (reads (core log) item) values waits most
    (quiet_read (core_facts e) (core log) item (plain_quiet (Settings true pairs) refl) g)))
