-- An item that is a fault of its stream resets it at an end as at its log.
use Rattle.std.specs.FinMap as map
use Rattle.h2_laws_machine.proofs.Names
use Names.{◌≡◌, one_pong, is_server, released, with_sent, events_of, end_view, stream_at, total_one}
use Names.{◌≢◌, ◌==◌, Bool, true, false, ◌&&◌, List, refl, arith, Reset, alone, block, total, Event}
use Names.{ℕ, if◌then◌else◌, WindowUpdate, increment_on, processed_by, with_reported, owed_at_close}
use Names.{◌+◌, ◌-◌, ◌≤◌, ◌%◌, [], ◌∷◌, ap, sym, ◌∙◌, Code, Data, Item, Log, read, End}
use Names.{nat_lt, stream_of_item, reported_total, with_unreturned, discarded_flow, gives_elsewhere}
use Names.{length, code_number, StreamFault, with_verdict, queue_output, reset_stream, active_parts}
use Names.{Option, is_some, le-ltb, ne_eqb, data_of, flow_on, Decoded, Streams, is_fresh, is_one}
use Names.{zero-add, and_right, stream_of, one_reset, one_acked, StreamView, owed_entry, chosen_low}
use Names.{both_ways, false_from_ne_true, reports_unprocessed, with_table_after, after_stream_fault}
use Names.{payload_of, ResetEvent, unreleased, replies_to, table_after, reset_entry, lasts_parts}
use Rattle.h2_spec_log.specs.ItemEffects.{encoder_after_item}
use Rattle.h2_laws_machine.proofs.CallReset.{others_same, reset_here}
use Rattle.h2_laws_machine.proofs.LogCore.{StreamsOf, Core, core, CoreFacts, core_facts, Advances}
use Rattle.h2_laws_machine.proofs.LogCore.{Going, active_by_items, kept_back, greatest_used}
use Rattle.h2_laws_machine.proofs.RecvBeside.{beside_of, beside_table, beside_read, beside_reported}
use Rattle.h2_laws_machine.proofs.RecvBeside.{beside_reset, advances_with}
use Rattle.h2_laws_machine.proofs.RecvBlocks.{block_common, block_gives, block_takes, block_used}
use Rattle.h2_laws_machine.proofs.RecvBlocks.{taken_low, IsTaken}
use Rattle.h2_laws_machine.proofs.ItemsApart.{block_apart, IsApart, data_apart, update_apart}
use Rattle.h2_laws_machine.proofs.RecvEvents.{report, ChangesNoStream, same_reported}
use Rattle.h2_laws_machine.proofs.RecvRead.{reads, IsCommon, same_read}
use Rattle.h2_laws_machine.proofs.RecvReset.{data_common, data_used, data_gives, data_takes}
use Rattle.h2_laws_machine.proofs.RecvReturnedCredit.{After, returned}
use Rattle.h2_laws_machine.proofs.RecvStreamItems.{update_common, update_all, update_none}
use Rattle.h2_laws_machine.proofs.RecvStreamItems.{update_used}
use Rattle.h2_laws_machine.proofs.OwedAtClose.{owes_all}
use Rattle.h2_laws_machine.proofs.RecvVerdict.{active_said, stream_said}
use Rattle.h2_laws_machine.proofs.SentConnectionItems.{computing}
use Rattle.h2_laws_machine.proofs.SentQuietItems.{sends, used_wrote}
use Rattle.h2_laws_machine.proofs.StreamsSame.{streams_closed, said_reset, same_both, SameAt}
use Rattle.h2_laws_machine.proofs.StreamsSame.{active_some}
use Rattle.h2_laws_machine.proofs.WaitingOutput.{Waits, wrote_connection}

-- The event of a fault is harmless, and reports no flow.
fault_harmless : (i code : ℕ) → ChangesNoStream (ResetEvent i code true)
unfolding one_acked one_pong reports_unprocessed
fault_harmless i code = record { acks = refl; pongs = refl; names = λ j. refl }

fault_flow : (i code j : ℕ) → flow_on j (ResetEvent i code true) ≡ 0
unfolding flow_on
fault_flow i code j = refl

-- It shows its stream processed, or nothing.
pub fault_shows : (i code : ℕ)
    → processed_by (ResetEvent i code true) ≡ (if code == 11 then i else 0)
unfolding processed_by
fault_shows i code = refl

-- the core with an item that was read, the RST_STREAM that replies to it, and the event
abbrev pub with_fault : Core → ℕ → ℕ → Item → Core
with_fault c i code item = reads (sends (report c (ResetEvent i code true)) (alone (Reset i code)))
    item

-- Others are as they were.
pub fault_same : (c : Core) (i code : ℕ) (item : Item) (j : ℕ) → IsCommon item
    → ((k : ℕ) → k ≢ i → IsApart k item × (increment_on k item ≡ 0)) → j ≢ i
    → SameAt j c (with_fault c i code item)
fault_same c i code item j common apart other =
    let c1 : Core = report c (ResetEvent i code true) in
    let c2 : Core = sends c1 (alone (Reset i code)) in
    same_both j c c2 (reads c2 item) (same_both j c c1 c2
    (same_reported j c (ResetEvent i code true) (fault_harmless i code) (fault_flow i code j))
    (others_same c1 i code j other))
    (same_read j c2 item common.settings (apart j other).0 (apart j other).1)

module _ (c : Core) (i code : ℕ) (item : Item) where
  -- The stream isn't active then.
  pub fault_dead : active_by_items (with_fault c i code item) i ≡ false
  fault_dead =
      let d : Core = with_fault c i code item in
      false_from_ne_true (active_by_items d i) (λ alive.
      both_ways _ (lasts_parts i d.received d.sent (active_parts d.role i d.received d.sent
      d.reported alive).lasts).kept (reset_here i code c.sent))

  -- One stream more was reset.
  pub fault_resets : (n : ℕ) → n ≡ total one_reset c.sent
      → n + 1 ≡ total one_reset (with_fault c i code item).sent
  unfolding computing
  fault_resets n is = omega (arith, is, total_one one_reset (alone (Reset i code)) c.sent)

  -- RST_STREAM uses no number.
  pub fault_used : greatest_used (with_fault c i code item) ≡ greatest_used (reads c item)
  unfolding computing
  fault_used = used_wrote c.role (alone (Reset i code)) (item ∷ c.received) c.sent (λ items. refl)

-- What an end keeps where an item is read that is a fault of its stream, by what it makes of the
-- streams.
pub fault_advances : (h : CoreFacts) (c : Core) (i code : ℕ) (item : Item)
    (decoded : Option Decoded) (recv : ℕ) (streams : Streams) → IsCommon item
    → increment_on 0 item ≡ 0
    → recv + data_of item ≡ h.windows.recv → encoder_after_item c.encoder item ≡ c.encoder
    → StreamsOf streams (with_fault c i code item) → Advances h c
    → Advances (record h {
      reading = record h.reading { table = table_after h.reading.table decoded item };
      streams = streams;
      windows = record h.windows { recv = recv };
    }) (record (with_fault c i code item) {
      table = table_after c.table decoded item;
      encoder = encoder_after_item c.encoder item;
    })
fault_advances h c i code item decoded recv streams common gives takes kept are g =
    let event : Event = ResetEvent i code true in
    let q = fault_harmless i code in
    let one = beside_table h c decoded item (beside_of h c g) in
    let h1 : CoreFacts = record h {
      reading = record h.reading { table = table_after h.reading.table decoded item };
    } in
    let c1 : Core = record c { table = table_after c.table decoded item } in
    let two = beside_reported h1 c1 event q.acks q.pongs one in
    let three = beside_reset h1 (report c1 event) i code two in
    let four = beside_read h1 (sends (report c1 event) (alone (Reset i code))) item h.windows.send
    recv common (omega (arith, gives)) takes three in
    advances_with (record h1 {
      streams = streams;
      windows = record h.windows { recv = recv };
    }) (record (reads (sends (report c1 event) (alone (Reset i code))) item) {
      encoder = encoder_after_item c.encoder item;
    }) are (assumption (four.encoder ∙ sym kept, four))

-- The streams where an active one is reset.
fault_streams : (h : CoreFacts) (c : Core) (i code count : ℕ) (item : Item) → IsCommon item
    → ((j : ℕ) → j ≢ i → IsApart j item × (increment_on j item ≡ 0))
    → greatest_used (reads c item) ≡ greatest_used c
    → active_by_items c i ≡ true → IsTaken c i → count ≡ 1 → Advances h c
    → StreamsOf (record h.streams {
      entries = map.insert h.streams.entries i reset_entry;
      active_count = h.streams.active_count - count;
      resets = h.streams.resets + 1;
    }) (with_fault c i code item)
fault_streams h c i code count item common apart used alive taken one g =
    let d : Core = with_fault c i code item in
    let event : Event = ResetEvent i code true in
    let same : (j : ℕ) → j ≢ i → SameAt j c d = λ j other. fault_same c i code item j common apart
    other in
    rw one (streams_closed h.streams i (map.insert h.streams.entries i reset_entry)
    (h.streams.resets + 1) c d same alive (fault_dead c i code item)
    (said_reset h.streams.entries i c d g.streams.entries same (fault_dead c i code item)
    (reset_here i code c.sent)) (fault_used c i code item ∙ used) (taken_low _ _ _ (λ server.
    let low = chosen_low (code == 11) i in omega (arith, taken server, low, fault_shows i code)))
    (fault_resets c i code item h.streams.resets g.streams.resets) g.streams)

-- the end of which an item is a fault of a stream, before that is reset
abbrev before_reset : End → Option Decoded → Item → ℕ → End
before_reset e decoded item recv =
    record (with_table_after e decoded item) { windows = record e.windows { recv = recv } }

-- What the stream leaves owing.
fault_owing : (e : End) (log : Log) (decoded : Option Decoded) (i code n : ℕ) (item : Item)
    → n ≡ data_of item → active_by_items (core log) i ≡ true → Going e (core log)
    → n + owed_entry (map.get e.streams.entries i)
    ≡ data_of item + owed_at_close log (with_reported (with_sent (read log decoded item)
    (alone (Reset i code) ∷ [])) (ResetEvent i code true ∷ [])) i
unfolding with_sent with_reported unreleased reported_total flow_on
fault_owing e log decoded i code n item is alive g =
    let owed : owed_entry (map.get e.streams.entries i) ≡ kept_back (core log) i = ap owed_entry
    (active_said e (core log) i g alive) in
    let owing = owes_all log (with_reported (with_sent (read log decoded item)
    (alone (Reset i code) ∷ [])) (ResetEvent i code true ∷ [])) i alive
    (fault_dead (core log) i code item) in
    let same = owing ∙ ap (λ (x : ℕ). x - released i log.calls) (zero-add _) in
    omega (arith, is, owed, same)

-- What an item on an active stream that is a fault of it makes of an end.
active_fault : (e : End) (log : Log) (decoded : Option Decoded) (i code recv n : ℕ) (item : Item)
    → IsCommon item → ((j : ℕ) → j ≢ i → IsApart j item × (increment_on j item ≡ 0))
    → greatest_used (reads (core log) item) ≡ greatest_used (core log) → increment_on 0 item ≡ 0
    → recv + data_of item ≡ e.windows.recv → n ≡ data_of item
    → encoder_after_item log.encoder item ≡ log.encoder
    → active_by_items (core log) i ≡ true → IsTaken (core log) i → Waits e log → Going e (core log)
    → After (reset_stream (queue_output (before_reset e decoded item recv)
    (alone (Reset i code) ∷ [])) i n)
    (with_reported (with_unreturned (data_of item + owed_at_close log (with_reported
    (with_sent (read log decoded item) (alone (Reset i code) ∷ []))
    (ResetEvent i code true ∷ [])) i) (with_sent (read log decoded item)
    (alone (Reset i code) ∷ []))) (ResetEvent i code true ∷ []))
unfolding with_sent
active_fault e log decoded i code recv n item common apart used gives takes is kept alive taken w
    g =
    let c : Core = core log in
    let one : is_one (is_some (stream_at e i)) ≡ 1 = ap
    (λ (s : Option StreamView). is_one (is_some s)) (stream_said e c i g alive) in
    let streams : Streams = record e.streams {
      entries = map.insert e.streams.entries i reset_entry;
      active_count = e.streams.active_count - is_one (is_some (stream_at e i));
      resets = e.streams.resets + 1;
    } in
    returned (record (queue_output (before_reset e decoded item recv) (alone (Reset i code) ∷ [])) {
      streams = streams;
    }) _ _ _ _ (fault_owing e log decoded i code n item is alive g)
    (wrote_connection e.role e.failed e.output.waiting (read log decoded item)
    (end_view e).max_payload (Reset i code) w) g.windows.unreturned
    (fault_advances (core_facts e) c i code item decoded recv streams common gives takes
    kept (fault_streams (core_facts e) c i code (is_one (is_some (stream_at e i))) item common apart
    used alive taken one g) g)

-- A number that was used isn't fresh.
used_stale : (e : End) (c : Core) (i : ℕ) → i ≤ greatest_used c → Going e c → is_fresh e i ≡ false
used_stale e c i low g =
    and_right (is_server e.role && i % 2 == 1) (nat_lt e.streams.highest i)
    (le-ltb e.streams.highest i (omega (arith, low, g.streams.highest)))

-- What a block on an active stream that is a fault of it makes of an end.
pub block_fault : (e : End) (log : Log) (decoded : Option Decoded) (i : ℕ) (end : Bool)
    (octets : List ℕ) (code : Code) → active_by_items (core log) i ≡ true
    → i ≤ greatest_used (core log) → IsTaken (core log) i → Waits e log → Going e (core log)
    → After (after_stream_fault e decoded (block i end octets) code) (with_verdict log decoded
    (block i end octets) (StreamFault code))
unfolding with_verdict after_stream_fault replies_to events_of discarded_flow stream_of_item
block_fault e log decoded i end octets code alive low taken w g =
    rw (used_stale e (core log) i low g)
    (active_fault e log decoded i (code_number code) e.windows.recv 0 (block i end octets)
    (block_common _ _ _) (λ j other. (block_apart i end octets j other, block_gives i end octets j))
    (block_used log.role i end octets log.received log.sent low) (block_gives i end octets 0)
    (omega (arith, block_takes i end octets)) (omega (arith, block_takes i end octets)) refl
    alive taken w g)

-- What DATA on an active stream that is a fault of it makes of an end.
pub data_fault : (e : End) (log : Log) (decoded : Option Decoded) (i : ℕ) (end : Bool)
    (octets : List ℕ) (pad : Option ℕ) (code : Code) → active_by_items (core log) i ≡ true
    → length (payload_of (Data i end octets pad)) ≤ e.windows.recv → IsTaken (core log) i
    → Waits e log → Going e (core log)
    → After (after_stream_fault e decoded (alone (Data i end octets pad)) code)
    (with_verdict log decoded (alone (Data i end octets pad)) (StreamFault code))
unfolding with_verdict after_stream_fault replies_to events_of discarded_flow stream_of_item
    stream_of
data_fault e log decoded i end octets pad code alive within taken w g =
    let n : ℕ = length (payload_of (Data i end octets pad)) in
    active_fault e log decoded i (code_number code) (e.windows.recv - n) n
    (alone (Data i end octets pad)) (data_common i end octets pad)
    (λ j other. (data_apart i end octets pad j other, data_gives i end octets pad j))
    (data_used (core log) i end octets pad) (data_gives i end octets pad 0)
    (omega (arith, within, data_takes i end octets pad))
    (omega (arith, data_takes i end octets pad)) refl alive taken w g

-- What a WINDOW_UPDATE of an active stream that is a fault of it makes of an end.
pub update_fault : (e : End) (log : Log) (decoded : Option Decoded) (i increment : ℕ) (code : Code)
    → active_by_items (core log) i ≡ true → IsTaken (core log) i → Waits e log → Going e (core log)
    → After (after_stream_fault e decoded (alone (WindowUpdate i increment)) code)
    (with_verdict log decoded (alone (WindowUpdate i increment)) (StreamFault code))
unfolding with_verdict after_stream_fault replies_to events_of discarded_flow stream_of_item
    stream_of
update_fault e log decoded i increment code alive taken w g =
    active_fault e log decoded i (code_number code) e.windows.recv 0
    (alone (WindowUpdate i increment)) (update_common i increment)
    (λ j other. (update_apart i increment j, gives_elsewhere i j increment (λ is. other (sym is))))
    (update_used (core log) i increment) (update_all i increment
    ∙ rw (ne_eqb i 0 (active_some (core log) i alive)) refl)
    (omega (arith, update_none i increment)) (omega (arith, update_none i increment)) refl
    alive taken w g
