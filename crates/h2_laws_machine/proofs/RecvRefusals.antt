-- What a field block of a new number that is refused, or whose list is too large, makes of an end
-- and of its log.
use Rattle.std.specs.FinMap as map
use Rattle.h2_laws_machine.proofs.Names
use Names.{◌≡◌, nat_lt, Option, is_some, lt-ltb, eq-eqb, Client, Server, Decoded, Streams, entry_by}
use Names.{◌≢◌, ◌+◌, ◌-◌, ◌≤◌, ◌%◌, ◌∷◌, ap, sym, ◌∙◌, inl, inr, Item, Role, Log, read, End}
use Names.{ℕ, Bool, true, List, None, refl, arith, Code, Reset, alone, block, resets, Event, is_one}
use Names.{◌==◌, list_any, cases_eq, with_sent, events_of, end_view, stream_in, stream_at, is_fresh}
use Names.{false, if◌then◌else◌, code_number, processed_by, count_below, with_verdict, queue_output}
use Names.{[], ResetEvent, is_server, StreamFault, replies_to, StreamEntry, reset_entry, owed_entry}
use Names.{stream_of_item, greatest_processed, discarded_flow, with_table_after, after_stream_fault}
use Rattle.h2_laws_machine.proofs.CallOpen.{none_above, count_high}
use Rattle.h2_laws_machine.proofs.CallReset.{reset_here}
use Rattle.h2_laws_machine.proofs.LogCore.{StreamsOf, Core, core, CoreFacts, core_facts, Advances}
use Rattle.h2_laws_machine.proofs.LogCore.{Going, active_by_items, greatest_used, said}
use Rattle.h2_laws_machine.proofs.RecvBlocks.{block_common, block_gives, block_takes}
use Rattle.h2_laws_machine.proofs.ItemsApart.{block_apart}
use Rattle.h2_laws_machine.proofs.OwedAtClose.{dead_owing}
use Rattle.h2_laws_machine.proofs.RecvOpenings.{MayBeOpened, used_here}
use Rattle.h2_laws_machine.proofs.RecvReturnedCredit.{After, returned}
use Rattle.h2_laws_machine.proofs.RecvStreamFaults.{with_fault, fault_same, fault_dead, fault_used}
use Rattle.h2_laws_machine.proofs.RecvStreamFaults.{fault_resets, fault_advances, fault_shows}
use Rattle.h2_laws_machine.proofs.StreamsSame.{said_reset, SameAt, count_same}
use Rattle.h2_laws_machine.proofs.WaitingOutput.{Waits, wrote_connection}

-- Nothing is kept of a new number.
fresh_none : (e : End) (c : Core) (i : ℕ) → MayBeOpened c i → Going e c
    → map.get e.streams.entries i ≡ None
fresh_none e c i may g =
    g.streams.entries i ∙ ap (λ (b : Bool). entry_by b (list_any (resets i) c.sent) (said c i))
    (none_above c i may.rises)
    ∙ ap (λ (b : Bool). entry_by false b (said c i)) may.clear.reset_out

-- The greatest stream that was processed is the new one, where the code says so.
processed_fault : (role : Role) (event : Event) (reported : List Event) (i last : ℕ) (calm : Bool)
    → role ≡ Server → processed_by event ≡ (if calm then i else 0) → greatest_processed reported ≤ i
    → last ≡ (if is_server role then greatest_processed reported else 0)
    → (if calm then i else last)
    ≡ (if is_server role then greatest_processed (event ∷ reported) else 0)
unfolding greatest_processed
processed_fault Client event reported i last calm is shows low was = cc
processed_fault Server event reported i last true is shows low was = omega (arith, shows, low)
processed_fault Server event reported i last false is shows low was = omega (arith, shows, was)

-- The streams where a new number is reset.
refused_streams : (h : CoreFacts) (c : Core) (i code count : ℕ) (end : Bool) (octets : List ℕ)
    → MayBeOpened c i → count ≡ 0 → Advances h c
    → StreamsOf (record h.streams {
      entries = map.insert h.streams.entries i reset_entry;
      active_count = h.streams.active_count - count;
      highest = i;
      last_processed = if code == 11 then i else h.streams.last_processed;
      resets = h.streams.resets + 1;
    }) (with_fault c i code (block i end octets))
refused_streams h c i code count end octets may none g =
    let item : Item = block i end octets in
    let d : Core = with_fault c i code item in
    let event : Event = ResetEvent i code true in
    let rises = may.rises in
    let low = may.processed in
    let same : (j : ℕ) → j ≢ i → SameAt j c d = λ j other. fault_same c i code item j
    (block_common i end octets)
    (λ j other. (block_apart i end octets j other, block_gives i end octets j)) other in
    let dead = fault_dead c i code item in
    let used : greatest_used d ≡ i = fault_used c i code item ∙ used_here c.role i end octets
    c.received c.sent may.server rises in
    let still : (j : ℕ) → active_by_items d j ≡ active_by_items c j = λ j. elim (cases_eq j i) [
      | inl here ↦ rw here (dead ∙ sym (none_above c i rises))
      | inr other ↦ (same j other).active
    ] in
    let next : (i - greatest_used c) + (greatest_used c + 1) ≡ i + 1 = omega (arith, rises) in
    let high : count_below (i + 1) (active_by_items c) ≡ count_below (greatest_used c + 1)
    (active_by_items c) = ap (λ (n : ℕ). count_below n (active_by_items c)) (sym next) ∙ count_high
    (i - greatest_used c) (greatest_used c + 1) (active_by_items c)
    (λ j above. none_above c j (omega (arith, above))) in
    let counted : count_below (greatest_used d + 1) (active_by_items d) ≡ count_below
    (greatest_used c + 1) (active_by_items c) =
    ap (λ (n : ℕ). count_below (n + 1) (active_by_items d)) used ∙ count_same (i + 1)
    (active_by_items d) (active_by_items c) still ∙ high in
    record {
      entries = said_reset _ _ c d g.streams.entries same dead (reset_here i code c.sent);
      active_count = omega (arith, none, g.streams.active_count, counted);
      highest = sym used;
      last_processed = processed_fault c.role event c.reported i h.streams.last_processed
          (code == 11) may.server (fault_shows i code) (omega (arith, low, rises))
          g.streams.last_processed;
      resets = fault_resets c i code item h.streams.resets g.streams.resets;
    }

-- A new number is fresh.
is_fresh_here : (e : End) (log : Log) (i : ℕ) → e.role ≡ log.role → MayBeOpened (core log) i
    → Going e (core log) → is_fresh e i ≡ true
is_fresh_here e log i role may g =
    let rises = may.rises in
    let server : is_server e.role ≡ true = ap is_server (role ∙ may.server) in
    let odd : i % 2 == 1 ≡ true = eq-eqb (i % 2) 1 may.odd in
    let above : nat_lt e.streams.highest i ≡ true =
    lt-ltb e.streams.highest i (omega (arith, rises, g.streams.highest)) in
    rw (server, odd, above) refl

-- What a block of a new number that is a fault of its stream makes of an end.
pub new_fault : (e : End) (log : Log) (decoded : Option Decoded) (i : ℕ) (end : Bool)
    (octets : List ℕ) (code : Code) → MayBeOpened (core log) i → Waits e log → Going e (core log)
    → After (after_stream_fault e decoded (block i end octets) code) (with_verdict log decoded
    (block i end octets) (StreamFault code))
unfolding with_verdict after_stream_fault replies_to events_of discarded_flow stream_of_item
    with_sent
new_fault e log decoded i end octets code may w g =
    let c : Core = core log in
    let item : Item = block i end octets in
    let n : ℕ = code_number code in
    let none = fresh_none e c i may g in
    let count : is_one (is_some (stream_at e i)) ≡ 0 = ap
    (λ (x : Option StreamEntry). is_one (is_some (stream_in x))) none in
    let streams : Streams = record e.streams {
      entries = map.insert e.streams.entries i reset_entry;
      active_count = e.streams.active_count - is_one (is_some (stream_at e i));
      highest = i;
      last_processed = if n == 11 then i else e.streams.last_processed;
      resets = e.streams.resets + 1;
    } in
    let dead = none_above c i may.rises in
    let owed : owed_entry (map.get e.streams.entries i) ≡ 0 = ap owed_entry none in
    rw (is_fresh_here e log i w.same_role may g)
    (returned (record (queue_output (with_table_after e decoded item) (alone (Reset i n) ∷ [])) {
      streams = streams;
    }) _ _ _ _ (omega (arith, block_takes, dead_owing))
    (wrote_connection e.role e.failed e.output.waiting (read log decoded item)
    (end_view e).max_payload (Reset i n) w) g.windows.unreturned
    (fault_advances (core_facts e) c i n item decoded e.windows.recv streams
    (block_common i end octets) (block_gives i end octets 0)
    (omega (arith, block_takes i end octets)) refl
    (refused_streams (core_facts e) c i n (is_one (is_some (stream_at e i))) end octets may count g)
    g))
