-- What DATA that is reported makes of an end and of its log.
use Rattle.std.specs.FinMap as map
use Rattle.h2_laws_machine.proofs.Names
use Names.{◌≡◌, ◌≢◌, ℕ, ◌≤◌, ◌+◌, ◌-◌, Bool, true, false, ◌&&◌, ◌||◌, if◌then◌else◌, pos, ◌-ℤ◌}
use Names.{List, [], ◌∷◌, length, Option, refl, ap, sym, ◌∙◌, arith, zero-add, list_any, ints}
use Names.{both_ways, ne_eqb, eq-eqb, or_right, false_from_ne_true, Data, stream_of, payload_of}
use Names.{Item, alone, stream_of_item, data_on, is_block_on, ends, resets, total, Event, flow_on}
use Names.{one_acked, one_pong, reported_total, reports_unprocessed, processed_by, is_server}
use Names.{value_read, openings, given_on, granted_on, Log, unreleased, released, Reported, Decoded}
use Names.{replies_to, read, with_sent, with_reported, with_unreturned, owed_at_close, with_verdict}
use Names.{events_of, discarded_flow, End, StreamMap, active_entry, owed_entry, Streams, StreamView}
use Names.{set_stream, close_stream, with_flow, after_reported, Role, Client, Server, get_set_same}
use Names.{active_parts, active_by_parts, lasts_parts, ConnectionWindows, table_after}
use Rattle.h2_spec_log.specs.Events.{DataEvent}
use Rattle.h2_laws_machine.proofs.ItemsApart.{data_apart}
use Rattle.h2_laws_machine.proofs.LogCore.{StreamsOf, said, Core, core, CoreFacts, core_facts}
use Rattle.h2_laws_machine.proofs.LogCore.{Advances, Going, confirmed, active_by_items}
use Rattle.h2_laws_machine.proofs.LogCore.{greatest_used, processed}
use Rattle.h2_laws_machine.proofs.OwedAtClose.{none_owing, owes_all}
use Rattle.h2_laws_machine.proofs.RecvEvents.{reported_by, report, ChangesNoStream, active_reported}
use Rattle.h2_laws_machine.proofs.RecvEvents.{same_reported, taken_kept}
use Rattle.h2_laws_machine.proofs.RecvRead.{reads, read_step, same_read}
use Rattle.h2_laws_machine.proofs.RecvReset.{data_gives, data_common, data_used, data_takes}
use Rattle.h2_laws_machine.proofs.RecvReturnedCredit.{After, returned, unsettled}
use Rattle.h2_laws_machine.proofs.RecvVerdict.{stream_said}
use Rattle.h2_laws_machine.proofs.StreamsSame.{streams_set, streams_closed, said_over, same_both}
use Rattle.h2_laws_machine.proofs.StreamsSame.{SameAt, same_stream}
use Rattle.h2_laws_machine.proofs.WaitingOutput.{Waits}
use Rattle.h2_spec_machine.specs.End.{ReadSoFar}
use Rattle.h2_spec_log.specs.ItemEffects.{encoder_after_item}

module _ (i : ℕ) (octets : List ℕ) (n : ℕ) (end : Bool) where
  -- the event of DATA is harmless, and shows nothing taken
  reported_harmless : ChangesNoStream (DataEvent i octets n end)
  unfolding one_acked one_pong reports_unprocessed
  reported_harmless = record { acks = refl; pongs = refl; names = λ j. refl }

  reported_shows : processed_by (DataEvent i octets n end) ≡ 0
  unfolding processed_by
  reported_shows = refl

  -- its flow elsewhere, and on its stream
  reported_elsewhere : (j : ℕ) → j ≢ i → flow_on j (DataEvent i octets n end) ≡ 0
  unfolding flow_on
  reported_elsewhere j other = rw (ne_eqb i j (λ is. other (sym is))) refl

  reported_here : flow_on i (DataEvent i octets n end) ≡ n
  unfolding flow_on
  reported_here = rw (eq-eqb i i refl) refl

-- DATA takes its payload of its stream's window, and ends it if it says so
data_here : (i : ℕ) (end : Bool) (octets : List ℕ) (pad : Option ℕ)
    → data_on i (alone (Data i end octets pad)) ≡ length (payload_of (Data i end octets pad))
unfolding data_on
data_here i end octets pad = rw (eq-eqb i i refl) refl

data_ends : (i : ℕ) (end : Bool) (octets : List ℕ) (pad : Option ℕ)
    → ends i (alone (Data i end octets pad)) ≡ end
unfolding ends
data_ends i end octets pad = rw (eq-eqb i i refl) refl

data_unreset : (i : ℕ) (end : Bool) (octets : List ℕ) (pad : Option ℕ) (j : ℕ)
    → resets j (alone (Data i end octets pad)) ≡ false
unfolding resets
data_unreset i end octets pad j = refl

-- the core with DATA that was read and reported
abbrev after_data : Core → ℕ → Bool → List ℕ → Option ℕ → Core
after_data c i end octets pad =
    reads (report c (DataEvent i octets (length (payload_of (Data i end octets pad))) end))
    (alone (Data i end octets pad))

-- a receive window that is used, by signed numbers
used_recv_window : (g t n : ℕ) → (pos g -ℤ pos t) -ℤ pos n ≡ pos g -ℤ pos (n + t)
used_recv_window g t n = omega (arith, ints)

-- two flags in the other order
pub or_swapped : (a b : Bool) → a || b ≡ b || a
or_swapped true true = refl
or_swapped true false = refl
or_swapped false true = refl
or_swapped false false = refl

-- what is kept back where more is reported
more_kept : (n reported rel : ℕ) → rel ≤ reported → (reported - rel) + n ≡ (n + reported) - rel
more_kept n reported rel within = omega (arith, within)

-- The stream with its flow is what the log says.
flow_said : (c : Core) (i : ℕ) (end : Bool) (octets : List ℕ) (pad : Option ℕ)
    → released i c.calls ≤ reported_total (flow_on i) c.reported
    → with_flow (said c i) (length (payload_of (Data i end octets pad))) end ≡ said
    (after_data c i end octets pad) i
unfolding given_on total reported_total value_read one_acked
flow_said c i end octets pad within =
    let n : ℕ = length (payload_of (Data i end octets pad)) in
    let d : Core = after_data c i end octets pad in
    same_stream (with_flow (said c i) n end) (said d i)
    (rw (data_gives i end octets pad i, zero-add) refl)
    (rw (data_here i end octets pad, zero-add) (used_recv_window (granted_on i (confirmed c) c.sent)
    (total (data_on i) c.received) n)) (rw (reported_here i octets n end) (more_kept _ _ _ within))
    (rw (data_ends i end octets pad) (or_swapped (list_any (ends i) c.received) end)) refl

-- Others are as they were.
data_same : (c : Core) (i : ℕ) (end : Bool) (octets : List ℕ) (pad : Option ℕ) (j : ℕ) → j ≢ i
    → SameAt j c (after_data c i end octets pad)
data_same c i end octets pad j other =
    let n : ℕ = length (payload_of (Data i end octets pad)) in
    let c1 : Core = report _ _ in
    same_both _ _ c1 _ (same_reported _ _ _ (reported_harmless _ _ _ _)
    (reported_elsewhere _ _ _ _ _ other)) (same_read _ c1 _ (data_common _ _ _ _).settings
    (data_apart _ _ _ _ _ other) (data_gives _ _ _ _ _))

-- what stands among the openings stands among more
pub opened_more : (role : Role) (i : ℕ) (item : Item) (received sent : List Item)
    → list_any (is_block_on i) (openings role received sent) ≡ true
    → list_any (is_block_on i) (openings role (item ∷ received) sent) ≡ true
opened_more Client i item received sent here = here
opened_more Server i item received sent here = or_right _ _ here

-- What is read after its sender's or before the receiver's end leaves its stream active, by the
-- flags after it.
pub read_is_active : (c : Core) (i : ℕ) (end : Bool) (item : Item) (event : Event)
    → ChangesNoStream event → ends i item ≡ end → resets i item ≡ false
    → active_by_items c i ≡ true
    → ((list_any (ends i) c.received || end) && list_any (ends i) c.sent) ≡ false
    → active_by_items (reads (report c event) item) i ≡ true
read_is_active c i end item event q ended unreset alive goes =
    let parts = active_parts c.role i c.received c.sent c.reported alive in
    let lasts = lasts_parts i c.received c.sent parts.lasts in
    active_reported c.role i (item ∷ c.received) c.sent event c.reported (q.names i)
    ∙ active_by_parts _ _ _ _ _ parts.odd (opened_more c.role i item c.received c.sent parts.opened)
    parts.below (rw (ended, or_swapped end (list_any (ends i) c.received)) goes)
    (rw unreset lasts.unreset) lasts.kept parts.unnamed

-- What is read after which both sides have ended its stream ends it, by the flags after it.
pub read_is_last : (c : Core) (i : ℕ) (end : Bool) (item : Item) (event : Event)
    → ends i item ≡ end
    → ((list_any (ends i) c.received || end) && list_any (ends i) c.sent) ≡ true
    → active_by_items (reads (report c event) item) i ≡ false
read_is_last c i end item event ended over =
    let d : Core = reads (report c event) item in
    false_from_ne_true (active_by_items d i) (λ alive.
    both_ways (list_any (ends i) d.received && list_any (ends i) d.sent)
    (lasts_parts i d.received d.sent (active_parts d.role i d.received d.sent d.reported
    alive).lasts).ended (rw (ended, or_swapped _ _) over))

-- What an end keeps where DATA is reported on an active stream, by what it makes of the streams.
data_advances : (h : CoreFacts) (c : Core) (i : ℕ) (end : Bool) (octets : List ℕ) (pad : Option ℕ)
    (streams : Streams)
    → active_by_items c i ≡ true → length (payload_of (Data i end octets pad)) ≤ h.windows.recv
    → StreamsOf streams (after_data c i end octets pad) → Advances h c
    → Advances (record h {
      streams = streams;
      windows = record h.windows {
        recv = h.windows.recv - length (payload_of (Data i end octets pad));
      };
    }) (after_data c i end octets pad)
data_advances h c i end octets pad streams alive within are g =
    let n : ℕ = length (payload_of (Data i end octets pad)) in
    let event : Event = DataEvent i octets n end in
    let c1 : Core = report c event in
    let q = reported_harmless i octets n end in
    let alive1 : active_by_items c1 i ≡ true = active_reported c.role i c.received c.sent event
    c.reported (q.names i) ∙ alive in
    let one = reported_by h c event _ q.acks q.pongs (streams_set h.streams i (said c1 i) c c1
    (λ j other. same_reported j c event q (reported_elsewhere i octets n end j other)) alive alive1
    refl refl (taken_kept _ _ c.reported (reported_shows i octets n end)) refl g.streams) g in
    read_step _ c1 (alone (Data i end octets pad)) streams h.windows.send (h.windows.recv - n)
    (data_common i end octets pad) are (omega (arith, data_gives i end octets pad 0))
    (omega (arith, within, data_takes i end octets pad)) one

-- What is read and reported of an active stream makes of an end, by the test whether the stream is
-- over: the stream is `s` then, and besides the streams the end keeps `reading` and `windows`.
pub read_by : (e : End) (log : Log) (decoded : Option Decoded) (i : ℕ) (end : Bool) (item : Item)
    (event : Event) (reading : ReadSoFar) (windows : ConnectionWindows) (s : StreamView) (b : Bool)
    → ((list_any (ends i) log.received || end) && list_any (ends i) log.sent) ≡ b
    → active_by_items (core log) i ≡ true → ends i item ≡ end → resets i item ≡ false
    → ChangesNoStream event → s ≡ said (reads (report (core log) event) item) i
    → ((j : ℕ) → j ≢ i → SameAt j (core log) (reads (report (core log) event) item))
    → greatest_used (reads (report (core log) event) item) ≡ greatest_used (core log)
    → processed (report (core log) event) ≡ processed (core log)
    → ((streams : Streams) → StreamsOf streams (reads (report (core log) event) item)
    → Advances (record (core_facts e) { reading = reading; streams = streams; windows = windows })
    (record (reads (report (core log) event) item) {
      table = table_after log.table decoded item;
      encoder = encoder_after_item log.encoder item;
    }))
    → windows.unreturned ≡ log.unreturned → Waits e log → Going e (core log)
    → After (if b then close_stream (set_stream (record e {
      reading = reading;
      windows = windows;
    }) i s) i 0 else set_stream (record e { reading = reading; windows = windows }) i s)
    (with_reported (with_unreturned (0 + owed_at_close log
    (with_reported (read log decoded item) (event ∷ [])) i) (read log decoded item)) (event ∷ []))
unfolding with_reported unreleased
read_by e log decoded i end item event reading windows s true over alive ended unreset q is same
    greatest shown advances unreturned w g =
    let c : Core = core log in
    let d : Core = reads (report c event) item in
    let dead : active_by_items d i ≡ false = read_is_last c i end item event ended over in
    let owing = owes_all log (with_reported (read log decoded item) (event ∷ [])) i alive dead in
    let streams : StreamMap = map.remove (map.insert e.streams.entries i (active_entry s)) i in
    returned (record e {
      reading = reading;
      streams = record e.streams { entries = streams; active_count = e.streams.active_count - 1 };
      windows = windows;
    }) (read log decoded item) (event ∷ []) _ _
    (ap (λ (m : ℕ). 0 + m) (ap owed_entry (get_set_same e.streams.entries i (active_entry s))
    ∙ ap (λ (t : StreamView). t.owed) is ∙ sym owing)) w unreturned
    (advances _ (streams_closed e.streams i streams e.streams.resets c d same alive dead
    (said_over e.streams.entries i (active_entry s) c d g.streams.entries same dead
    (lasts_parts i c.received c.sent (active_parts c.role i c.received c.sent c.reported
    alive).lasts).kept) greatest shown g.streams.resets g.streams))
read_by e log decoded i end item event reading windows s false goes alive ended unreset q is same
    greatest shown advances unreturned w g =
    let c : Core = core log in
    let d : Core = reads (report c event) item in
    let still : active_by_items d i ≡ true =
    read_is_active c i end item event q ended unreset alive goes in
    let kept = none_owing log (with_reported (read log decoded item) (event ∷ [])) i
    (still ∙ sym alive) in
    unsettled (record e {
      reading = reading;
      streams = record e.streams { entries = map.insert e.streams.entries i (active_entry s) };
      windows = windows;
    }) (read log decoded item) (event ∷ []) _ (omega arith) w unreturned
    (advances _ (streams_set e.streams i s c d same alive still is greatest shown refl g.streams))

-- What DATA on an active stream makes of an end.
pub data_reported : (e : End) (log : Log) (decoded : Option Decoded) (i : ℕ) (end : Bool)
    (octets : List ℕ) (pad : Option ℕ) → active_by_items (core log) i ≡ true
    → length (payload_of (Data i end octets pad)) ≤ e.windows.recv → released i log.calls ≤
    reported_total (flow_on i) log.reported → Waits e log → Going e (core log)
    → After (after_reported e decoded (alone (Data i end octets pad))) (with_verdict log decoded
    (alone (Data i end octets pad)) Reported)
unfolding with_verdict after_reported replies_to events_of discarded_flow stream_of_item stream_of
    with_sent
data_reported e log decoded i end octets pad alive within rel w g =
    let c : Core = core log in
    let n : ℕ = length (payload_of (Data i end octets pad)) in
    let event : Event = DataEvent i octets n end in
    rw (stream_said e c i g alive)
    (read_by e log decoded i end (alone (Data i end octets pad)) event e.reading
    (record e.windows { recv = e.windows.recv - n }) (with_flow (said c i) n end)
    ((list_any (ends i) log.received || end) && list_any (ends i) log.sent) refl alive
    (data_ends i end octets pad) (data_unreset i end octets pad i)
    (reported_harmless i octets n end) (flow_said c i end octets pad rel)
    (data_same c i end octets pad) (data_used (report c event) i end octets pad)
    (taken_kept (is_server c.role) event c.reported (reported_shows i octets n end))
    (λ streams are. data_advances (core_facts e) c i end octets pad streams alive within are g)
    g.windows.unreturned w g)
