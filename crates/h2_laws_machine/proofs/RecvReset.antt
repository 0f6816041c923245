-- What RST_STREAM, and DATA that is ignored, make of an end and of its log.
use Rattle.std.specs.FinMap as map
use Rattle.h2_laws_machine.proofs.Names
use Names.{◌≡◌, ◌≢◌, ℕ, ◌≤◌, ◌+◌, ◌-◌, Bool, true, false, List, [], ◌∷◌, length, Option, refl, ap}
use Names.{sym, ◌∙◌, inl, inr, arith, zero-add, list_any, cases_eq, both_ways, eq-eqb, or_left}
use Names.{false_from_ne_true, Data, Reset, stream_of, payload_of, Item, alone, least_goaway, Log}
use Names.{active, unreleased, released, stream_of_item, data_of, increment_on, is_block_on, resets}
use Names.{is_goaway, greatest_block, ResetEvent, flow_on, one_acked, one_pong, reported_total}
use Names.{reports_unprocessed, processed_by, one_settings, NoEvent, Reported, Decoded, replies_to}
use Names.{read, with_sent, with_reported, owed_at_close, with_verdict, events_of, discarded_flow}
use Names.{End, owed_entry, after_ignored, after_reported, active_parts, lasts_parts}
use Rattle.h2_laws_machine.proofs.ItemsApart.{reset_apart, data_apart, IsApart}
use Rattle.h2_laws_machine.proofs.LogCore.{Core, core, CoreFacts, core_facts, Advances, Going}
use Rattle.h2_laws_machine.proofs.LogCore.{active_by_items, kept_back, greatest_used}
use Rattle.h2_laws_machine.proofs.OwedAtClose.{dead_owing, owes_all}
use Rattle.h2_laws_machine.proofs.RecvEvents.{ChangesNoStream, quiet_reported, active_reported}
use Rattle.h2_laws_machine.proofs.RecvRead.{used_read, reads, IsCommon, read_step, same_read}
use Rattle.h2_laws_machine.proofs.RecvRead.{same_dead, stays_dead}
use Rattle.h2_laws_machine.proofs.RecvReturnedCredit.{After, returned, unsettled}
use Rattle.h2_laws_machine.proofs.RecvVerdict.{active_said}
use Rattle.h2_laws_machine.proofs.StreamsSame.{streams_same, streams_closed, SameAt, said_removed}
use Rattle.h2_laws_machine.proofs.WaitingOutput.{Waits}

-- What an end keeps where an item on a stream that isn't active is read, which gives nothing and
-- may take of the connection's window.
dead_read : (h : CoreFacts) (c : Core) (item : Item) (i recv_window : ℕ) → IsCommon item
    → ((j : ℕ) → j ≢ i → IsApart j item) → is_block_on i item ≡ false
    → greatest_used (reads c item) ≡ greatest_used c → ((j : ℕ) → increment_on j item ≡ 0)
    → recv_window + data_of item ≡ h.windows.recv → active_by_items c i ≡ false → Advances h c
    → Advances (record h { windows = record h.windows { recv = recv_window } }) (reads c item)
dead_read h c item i recv_window common apart opens greatest gives takes dead g =
    let same : (j : ℕ) → SameAt j c (reads c item) = λ j. elim (cases_eq j i) [
      | inl here ↦ rw here (same_dead i c item dead (stays_dead c i item opens dead))
      | inr other ↦ same_read j c item common.settings (apart j other) (gives j)
    ] in
    read_step h c item h.streams h.windows.send recv_window common
    (streams_same h.streams c (reads c item) same greatest refl refl g.streams)
    (omega (arith, gives 0)) takes g

-- RST_STREAM is neither SETTINGS nor GOAWAY.
reset_common : (i code : ℕ) → IsCommon (alone (Reset i code))
unfolding is_goaway least_goaway one_settings
reset_common i code = record { leaves = refl; least = λ items. refl; settings = refl }

-- It opens nothing, gives nothing, and takes nothing.
reset_opens : (i code j : ℕ) → is_block_on j (alone (Reset i code)) ≡ false
unfolding is_block_on
reset_opens i code j = refl

reset_used : (c : Core) (i code : ℕ) → greatest_used (reads c (alone (Reset i code)))
    ≡ greatest_used c
unfolding greatest_block
reset_used c i code = used_read c.role (alone (Reset i code)) c.received c.sent (λ items. refl)

reset_gives : (i code j : ℕ) → increment_on j (alone (Reset i code)) ≡ 0
unfolding increment_on
reset_gives i code j = refl

reset_takes : (i code : ℕ) → data_of (alone (Reset i code)) ≡ 0
unfolding data_of
reset_takes i code = refl

-- What RST_STREAM on a stream that isn't active makes of an end.
pub reset_ignored : (e : End) (log : Log) (decoded : Option Decoded) (i code : ℕ)
    → active_by_items (core log) i ≡ false → Waits e log → Going e (core log)
    → After (after_ignored e decoded (alone (Reset i code))) (with_verdict log decoded
    (alone (Reset i code)) NoEvent)
unfolding with_verdict after_ignored replies_to events_of discarded_flow data_of stream_of_item
    stream_of with_sent with_reported
reset_ignored e log decoded i code dead w g =
    let item : Item = alone (Reset i code) in
    unsettled e (read log decoded item) [] _ (omega (arith, dead_owing)) w g.windows.unreturned
    (dead_read (core_facts e) (core log) item i e.windows.recv (reset_common i code)
    (reset_apart i code) (reset_opens i code i) (reset_used (core log) i code)
    (reset_gives i code) (omega (arith, reset_takes i code)) dead g)

-- A stream on which RST_STREAM was read isn't active.
reset_dead : (c : Core) (i code : ℕ) → active_by_items (reads c (alone (Reset i code))) i ≡ false
unfolding resets
reset_dead c i code =
    false_from_ne_true (active_by_items (reads c (alone (Reset i code))) i) (λ alive.
    both_ways (list_any (resets i) (alone (Reset i code) ∷ c.received))
    (lasts_parts i (alone (Reset i code) ∷ c.received) c.sent (active_parts _ _
    _ _ c.reported alive).lasts).unreset (or_left _ _ (eq-eqb i i refl)))

-- the event of an RST_STREAM that was read is harmless, reports no flow and shows nothing taken
reset_harmless : (i code : ℕ) → ChangesNoStream (ResetEvent i code false)
unfolding one_acked one_pong reports_unprocessed
reset_harmless i code = record { acks = refl; pongs = refl; names = λ j. refl }

reset_flow : (i code j : ℕ) → flow_on j (ResetEvent i code false) ≡ 0
unfolding flow_on
reset_flow i code j = refl

reset_shows : (i code : ℕ) → processed_by (ResetEvent i code false) ≡ 0
unfolding processed_by
reset_shows i code = refl

-- What an end keeps where RST_STREAM on an active stream is read.
reset_active_read : (h : CoreFacts) (c : Core) (i code : ℕ) → active_by_items c i ≡ true
    → Advances h c
    → Advances (record h {
      streams = record h.streams {
        entries = map.remove h.streams.entries i;
        active_count = h.streams.active_count - 1;
      };
    }) (reads c (alone (Reset i code)))
reset_active_read h c i code alive g =
    let item : Item = alone (Reset i code) in
    let same : (j : ℕ) → j ≢ i → SameAt j c (reads c item) = λ j other. same_read j c item
    (reset_common i code).settings (reset_apart i code j other) (reset_gives i code j) in
    read_step h c item _ h.windows.send h.windows.recv (reset_common i code)
    (streams_closed _ _ _ _ c (reads c item) same alive (reset_dead c i code)
    (said_removed h.streams.entries i c (reads c item) g.streams.entries same (reset_dead c i code)
    (lasts_parts i c.received c.sent (active_parts c.role i c.received c.sent c.reported
    alive).lasts).kept) (reset_used c i code) refl g.streams.resets g.streams)
    (omega (arith, reset_gives i code 0)) (omega (arith, reset_takes i code)) g

-- The stream isn't active then, once that was reported.
reset_reported_dead : (log : Log) (decoded : Option Decoded) (i code : ℕ)
    → active (with_reported (read log decoded (alone (Reset i code))) (ResetEvent i code false ∷
    [])) i ≡ false
unfolding with_reported
reset_reported_dead log decoded i code =
    active_reported _ _ _ _ _ _ ((reset_harmless i code).names i) ∙ reset_dead (core log) i code

-- What the stream leaves owing.
reset_owing : (e : End) (log : Log) (decoded : Option Decoded) (i code : ℕ)
    → active_by_items (core log) i ≡ true → Going e (core log)
    → 0 + owed_entry (map.get e.streams.entries i)
    ≡ 0 + owed_at_close log (with_reported (read log decoded (alone (Reset i code)))
    (ResetEvent i code false ∷ [])) i
unfolding with_reported unreleased reported_total flow_on
reset_owing e log decoded i code alive g =
    let owed : owed_entry (map.get e.streams.entries i) ≡ kept_back (core log) i = ap owed_entry
    (active_said e (core log) i g alive) in
    let owing = owes_all _ _ i alive (reset_reported_dead log decoded i code) in
    ap (λ (n : ℕ). 0 + n) (owed ∙ sym (owing ∙ ap (λ (x : ℕ). x - released i log.calls)
    (zero-add _)))

-- What RST_STREAM on an active stream makes of an end.
pub reset_reported : (e : End) (log : Log) (decoded : Option Decoded) (i code : ℕ)
    → active_by_items (core log) i ≡ true → Waits e log → Going e (core log)
    → After (after_reported e decoded (alone (Reset i code))) (with_verdict log decoded
    (alone (Reset i code)) Reported)
unfolding with_verdict after_reported replies_to events_of discarded_flow stream_of_item stream_of
    with_sent
reset_reported e log decoded i code alive w g =
    let item : Item = alone (Reset i code) in
    returned (record e {
      streams = record e.streams {
        entries = map.remove e.streams.entries i;
        active_count = e.streams.active_count - 1;
      };
    }) _ _ _ _ (reset_owing e log decoded i code alive g) w g.windows.unreturned
    (quiet_reported _ (reads (core log) item) (ResetEvent i code false)
    (reset_harmless i code) (reset_flow i code) (reset_shows i code)
    (reset_active_read (core_facts e) (core log) i code alive g))

-- DATA is neither SETTINGS nor GOAWAY.
pub data_common : (i : ℕ) (end : Bool) (octets : List ℕ) (pad : Option ℕ)
    → IsCommon (alone (Data i end octets pad))
unfolding is_goaway least_goaway one_settings
data_common i end octets pad = record { leaves = refl; least = λ items. refl; settings = refl }

-- It opens nothing, gives nothing, and takes its payload.
data_opens : (i : ℕ) (end : Bool) (octets : List ℕ) (pad : Option ℕ) (j : ℕ)
    → is_block_on j (alone (Data i end octets pad)) ≡ false
unfolding is_block_on
data_opens i end octets pad j = refl

pub data_used : (c : Core) (i : ℕ) (end : Bool) (octets : List ℕ) (pad : Option ℕ)
    → greatest_used (reads c (alone (Data i end octets pad))) ≡ greatest_used c
unfolding greatest_block
data_used c i end octets pad = used_read c.role (alone (Data i end octets pad)) c.received c.sent
    (λ items. refl)

pub data_gives : (i : ℕ) (end : Bool) (octets : List ℕ) (pad : Option ℕ) (j : ℕ)
    → increment_on j (alone (Data i end octets pad)) ≡ 0
unfolding increment_on
data_gives i end octets pad j = refl

pub data_takes : (i : ℕ) (end : Bool) (octets : List ℕ) (pad : Option ℕ)
    → data_of (alone (Data i end octets pad)) ≡ length (payload_of (Data i end octets pad))
unfolding data_of
data_takes i end octets pad = refl

-- What DATA on a stream that isn't active makes of an end.
pub data_ignored : (e : End) (log : Log) (decoded : Option Decoded) (i : ℕ) (end : Bool)
    (octets : List ℕ) (pad : Option ℕ) → active_by_items (core log) i ≡ false
    → length (payload_of (Data i end octets pad)) ≤ e.windows.recv → Waits e log
    → Going e (core log)
    → After (after_ignored e decoded (alone (Data i end octets pad))) (with_verdict log decoded
    (alone (Data i end octets pad)) NoEvent)
unfolding with_verdict after_ignored replies_to events_of discarded_flow stream_of_item stream_of
    with_sent with_reported
data_ignored e log decoded i end octets pad dead within w g =
    let item : Item = alone (Data i end octets pad) in
    let n : ℕ = length (payload_of (Data i end octets pad)) in
    returned (record e { windows = record e.windows { recv = e.windows.recv - n } }) _ [] _ _
    (omega (arith, dead_owing log (read log decoded item) i dead, data_takes i end octets pad)) w
    g.windows.unreturned
    (dead_read (core_facts e) (core log) item i (e.windows.recv - n) (data_common i end octets
    pad) (data_apart i end octets pad) (data_opens i end octets pad i)
    (data_used (core log) i end octets pad) (data_gives i end octets pad)
    (omega (arith, within, data_takes i end octets pad)) dead g)
