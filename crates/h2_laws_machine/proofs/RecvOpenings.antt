-- What a field block that opens a stream at a server makes of an end and of its log.
use Rattle.std.specs.FinMap as map
use Rattle.h2_laws_machine.proofs.Names
use Names.{◌≡◌, ◌≢◌, ℕ, ◌+◌, ◌≤◌, ◌<◌, ◌%◌, max, Bool, true, false, if◌then◌else◌, pos, List, []}
use Names.{◌∷◌, Option, refl, ap, sym, ◌∙◌, arith, zero-add, list_any, eq-eqb, and_right, Item}
use Names.{block, Role, Client, Server, stream_of_item, data_on, increment_on, is_block_on, ends}
use Names.{total, greatest_block, Event, FieldsEvent, flow_on, one_acked, reported_total}
use Names.{processed_by, greatest_processed, is_server, value_read, own_value, openings, is_above}
use Names.{count_below, first_window, given_on, granted_on, Log, Reported, Decoded, replies_to}
use Names.{read, with_sent, with_verdict, events_of, discarded_flow, StreamView, End, Streams}
use Names.{active_entry, with_table_after, after_reported, active_by_parts, decoded_fields}
use Rattle.h2_laws_machine.proofs.CallOpen.{IsClear, count_added, none_above, untouched_window}
use Rattle.h2_laws_machine.proofs.CallOpen.{end_or}
use Rattle.h2_laws_machine.proofs.LogCore.{StreamsOf, core_facts, active_by_items, greatest_used}
use Rattle.h2_laws_machine.proofs.LogCore.{said, Core, core, CoreFacts, Advances, Going, confirmed}
use Rattle.h2_laws_machine.proofs.RecvBlocks.{with_block, block_same, block_on, block_gives}
use Rattle.h2_laws_machine.proofs.RecvBlocks.{block_ends, block_resets, fields_harmless}
use Rattle.h2_laws_machine.proofs.RecvBlocks.{fields_flow, block_advances}
use Rattle.h2_laws_machine.proofs.OwedAtClose.{dead_owing}
use Rattle.h2_laws_machine.proofs.RecvEvents.{ChangesNoStream, active_reported}
use Rattle.h2_laws_machine.proofs.RecvReturnedCredit.{After, unsettled}
use Rattle.h2_laws_machine.proofs.RecvVerdict.{none_said}
use Rattle.h2_laws_machine.proofs.StreamsSame.{SameAt, same_stream, said_set}
use Rattle.h2_laws_machine.proofs.WaitingOutput.{Waits}

-- What a log has of a number whose block opens a stream at a server.
pub record MayBeOpened (c : Core) (i : ℕ) : Type 0 where
  pub server : c.role ≡ Server
  pub odd : i % 2 ≡ 1
  pub rises : greatest_used c < i
  pub clear : IsClear c i
  pub below : is_above c.role i c.sent ≡ false
  pub processed : greatest_processed c.reported ≤ greatest_used c

-- A block opens its stream at a server.
opened_here : (role : Role) (i : ℕ) (end : Bool) (octets : List ℕ) (received sent : List Item)
    → role ≡ Server
    → list_any (is_block_on i) (openings role (block i end octets ∷ received) sent) ≡ true
unfolding is_block_on
opened_here Client i end octets received sent is = cc
opened_here Server i end octets received sent is = rw (eq-eqb i i refl) refl

-- Its number is the greatest then.
pub used_here : (role : Role) (i : ℕ) (end : Bool) (octets : List ℕ) (received sent : List Item)
    → role ≡ Server → greatest_block (openings role received sent) < i
    → greatest_block (openings role (block i end octets ∷ received) sent) ≡ i
unfolding greatest_block
used_here Client i end octets received sent is above = cc
used_here Server i end octets received sent is above = omega (arith, above)

-- The new stream is active.
new_active : (c : Core) (i : ℕ) (end : Bool) (octets : List ℕ) (event : Event)
    → ChangesNoStream event → MayBeOpened c i
    → active_by_items (with_block c i end octets event) i ≡ true
new_active c i end octets event q may =
    let item : Item = block i end octets in
    let clear = may.clear in
    active_reported c.role i (item ∷ c.received) c.sent event c.reported (q.names i)
    ∙ active_by_parts c.role i (item ∷ c.received) c.sent c.reported (eq-eqb (i % 2) 1 may.odd)
    (opened_here c.role i end octets c.received c.sent may.server) may.below
    (and_right (list_any (ends i) (item ∷ c.received)) _ clear.ended_out)
    (rw (block_resets i end octets i) clear.reset_in) clear.reset_out clear.unnamed

-- the stream that is opened
abbrev opened_stream : CoreFacts → Bool → StreamView
opened_stream h end = record {
  send_window = pos h.peer.initial_window;
  recv_window = pos h.own.in_force.initial_window;
  owed = 0;
  ended_in = end;
  ended_out = false;
}

-- The new stream is what the log says.
new_said : (h : CoreFacts) (c : Core) (i : ℕ) (end : Bool) (octets : List ℕ) (event : Event)
    → one_acked event ≡ 0 → flow_on i event ≡ 0 → IsClear c i → Advances h c
    → opened_stream h end ≡ said (with_block c i end octets event) i
unfolding given_on granted_on total reported_total value_read
new_said h c i end octets event acks flow clear g =
    let d : Core = with_block c i end octets event in
    same_stream (opened_stream h end) (said d i) (ap (λ (n : ℕ). pos n) g.peer.initial_window
    ∙ untouched_window (value_read 4 first_window c.received) (total (increment_on i) d.received)
    (total (data_on i) c.sent)
    (omega (arith, clear.given, block_gives i end octets i)) clear.taken_out)
    (rw (acks, zero-add) (ap (λ (n : ℕ). pos n) g.own.in_force.initial_window
    ∙ untouched_window (own_value 4 first_window (confirmed c) c.sent) _ _
    clear.granted (omega (arith, clear.taken_in, block_on i end octets i))))
    (rw (flow, zero-add) (sym clear.owed))
    (rw (block_ends i end octets) (end_or end (list_any (ends i) c.received) clear.ended_in))
    (sym clear.ended_out)

-- The greatest stream that was processed is the new one.
processed_here : (role : Role) (event : Event) (reported : List Event) (i : ℕ) → role ≡ Server
    → processed_by event ≡ i → greatest_processed reported ≤ i
    → i ≡ (if is_server role then greatest_processed (event ∷ reported) else 0)
unfolding greatest_processed
processed_here Client event reported i is shows low = cc
processed_here Server event reported i is shows low = omega (arith, shows, low)

-- The event shows it.
fields_here : (i : ℕ) (fields : List Rattle.hpack.specs.declared.types.field.Field.Field)
    (end : Bool) → processed_by (FieldsEvent i fields end) ≡ i
unfolding processed_by
fields_here i fields end = refl

-- The streams with the new one are what the log says.
new_streams : (h : CoreFacts) (c : Core) (i : ℕ) (end : Bool) (octets : List ℕ) (event : Event)
    → ChangesNoStream event → ((j : ℕ) → flow_on j event ≡ 0) → processed_by event ≡ i
    → MayBeOpened c i → Advances h c
    → StreamsOf (record h.streams {
      entries = map.insert h.streams.entries i (active_entry (opened_stream h end));
      active_count = h.streams.active_count + 1;
      highest = max i h.streams.highest;
      last_processed = i;
    }) (with_block c i end octets event)
new_streams h c i end octets event q flow shows may g =
    let d : Core = with_block c i end octets event in
    let same : (j : ℕ) → j ≢ i → SameAt j c d = λ j other. block_same c i end octets event j q
    (flow j) other in
    let rises = may.rises in
    let used : greatest_used d ≡ i = used_here c.role i end octets c.received c.sent may.server
    rises in
    let more = count_added (greatest_used c + 1) i (active_by_items c) (active_by_items d)
    (omega (arith, rises)) (λ j high. none_above c j (omega (arith, high)))
    (new_active c i end octets event q may) (λ j other. (same j other).active) in
    record {
      entries = said_set _ _ _ c d g.streams.entries same (new_active c i end octets event q may)
          (new_said h c i end octets event q.acks (flow i) may.clear g);
      active_count = ap (λ (n : ℕ). n + 1) g.streams.active_count ∙ sym more ∙ ap
          (λ (n : ℕ). count_below (n + 1) (active_by_items d)) (sym used);
      highest = omega (arith, g.streams.highest, rises, used);
      last_processed = processed_here c.role event c.reported i may.server shows
          (omega (arith, may.processed, rises));
      resets = g.streams.resets;
    }

-- What a block that opens a stream makes of an end.
pub opening_reported : (e : End) (log : Log) (decoded : Option Decoded) (i : ℕ) (end : Bool)
    (octets : List ℕ) → MayBeOpened (core log) i → Waits e log → Going e (core log)
    → After (after_reported e decoded (block i end octets)) (with_verdict log decoded
    (block i end octets) Reported)
unfolding with_verdict after_reported replies_to events_of discarded_flow stream_of_item with_sent
opening_reported e log decoded i end octets may w g =
    let c : Core = core log in
    let item : Item = block i end octets in
    let event : Event = FieldsEvent i (decoded_fields decoded) end in
    let q = fields_harmless i (decoded_fields decoded) end in
    let flow = fields_flow i (decoded_fields decoded) end in
    let dead = none_above c i may.rises in
    let streams : Streams = record e.streams {
      entries = map.insert e.streams.entries i (active_entry (opened_stream (core_facts e) end));
      active_count = e.streams.active_count + 1;
      highest = max i e.streams.highest;
      last_processed = i;
    } in
    rw (none_said e c i g dead)
    (unsettled (record (with_table_after e decoded item) { streams = streams })
    (read log decoded item) (event ∷ []) _ (omega (arith, dead_owing)) w g.windows.unreturned
    (block_advances (core_facts e) c i end octets event decoded streams q
    (new_streams (core_facts e) c i end octets event q flow (fields_here _ _ end) may g) g))
