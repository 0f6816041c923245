-- What a field block on an active stream, and one that is ignored, make of an end and of its log.
use Rattle.h2_laws_machine.proofs.Names
use Names.{◌≡◌, data_of, flow_on, is_above, given_on, NoEvent, Reported, Decoded, Streams, is_fresh}
use Names.{◌≢◌, ◌+◌, ◌-◌, ◌≤◌, ◌<◌, ◌%◌, max, true, ◌&&◌, ◌||◌, List, refl, Item, Role, ends, read}
use Names.{ℕ, count_below, replies_to, table_after, lasts_parts, ◌==◌, Bool, Option, arith, eq-eqb}
use Names.{Field, block, Client, Server, resets, total, Event, nat_lt, stream_of_item}
use Names.{greatest_block, reported_total, is_closed_by_us, false, FieldsEvent, with_verdict}
use Names.{active_parts, if◌then◌else◌, value_read, with_reported, discarded_flow, after_reported}
use Names.{decoded_fields, [], increment_on, processed_by, one_settings, least_goaway}
use Names.{after_ignored, ◌∷◌, ap, sym, ◌∙◌, inl, inr, Log, End, zero-add, list_any, cases_eq}
use Names.{or_cases, ltb-true, data_on, one_pong, openings, both_ways, false_from_ne_true}
use Names.{reports_unprocessed, greatest_processed, with_table_after, ltb-false, one_reset}
use Names.{is_goaway, one_acked, is_server, with_sent, events_of}
use Rattle.h2_laws_machine.proofs.CallOpen.{count_high, none_above}
use Rattle.h2_laws_machine.proofs.LogCore.{StreamsOf, core_facts, active_by_items, greatest_used}
use Rattle.h2_laws_machine.proofs.LogCore.{said, Core, core, CoreFacts, Advances, Going, processed}
use Rattle.h2_laws_machine.proofs.RecvBeside.{beside_of, beside_table, beside_read, beside_reported}
use Rattle.h2_laws_machine.proofs.RecvBeside.{advances_with}
use Rattle.h2_laws_machine.proofs.OwedAtClose.{dead_owing}
use Rattle.h2_laws_machine.proofs.RecvData.{or_swapped, read_by}
use Rattle.h2_laws_machine.proofs.RecvEvents.{report, ChangesNoStream, same_reported}
use Rattle.h2_laws_machine.proofs.RecvRead.{reads, IsCommon, same_read}
use Rattle.h2_laws_machine.proofs.ItemsApart.{block_apart}
use Rattle.h2_laws_machine.proofs.RecvReturnedCredit.{After, unsettled}
use Rattle.h2_laws_machine.proofs.RecvVerdict.{stream_said}
use Rattle.h2_laws_machine.proofs.StreamsSame.{same_both, SameAt, kept_at, same_stream, count_same}
use Rattle.h2_laws_machine.proofs.WaitingOutput.{Waits}

-- A block is neither SETTINGS nor GOAWAY.
pub block_common : (i : ℕ) (end : Bool) (octets : List ℕ) → IsCommon (block i end octets)
unfolding is_goaway least_goaway one_settings
block_common i end octets = record { leaves = refl; least = λ items. refl; settings = refl }

-- It gives nothing, and takes nothing.
pub block_gives : (i : ℕ) (end : Bool) (octets : List ℕ) (j : ℕ)
    → increment_on j (block i end octets) ≡ 0
unfolding increment_on
block_gives i end octets j = refl

pub block_takes : (i : ℕ) (end : Bool) (octets : List ℕ) → data_of (block i end octets) ≡ 0
unfolding data_of
block_takes i end octets = refl

-- It takes nothing of a stream, resets none, and ends its own if it says so.
pub block_on : (i : ℕ) (end : Bool) (octets : List ℕ) (j : ℕ) → data_on j (block i end octets) ≡ 0
unfolding data_on
block_on i end octets j = refl

pub block_resets : (i : ℕ) (end : Bool) (octets : List ℕ) (j : ℕ)
    → resets j (block i end octets) ≡ false
unfolding resets
block_resets i end octets j = refl

pub block_ends : (i : ℕ) (end : Bool) (octets : List ℕ) → ends i (block i end octets) ≡ end
unfolding ends
block_ends i end octets = rw (eq-eqb i i refl) refl

-- It is no greater than the greatest number that was used.
pub block_used : (role : Role) (i : ℕ) (end : Bool) (octets : List ℕ) (received sent : List Item)
    → i ≤ greatest_block (openings role received sent)
    → greatest_block (openings role (block i end octets ∷ received) sent)
    ≡ greatest_block (openings role received sent)
unfolding greatest_block
block_used Client i end octets received sent low = refl
block_used Server i end octets received sent low = omega (arith, low)

-- The event of its fields is harmless, and reports no flow.
pub fields_harmless : (i : ℕ) (fields : List Field) (end : Bool)
    → ChangesNoStream (FieldsEvent i fields end)
unfolding one_acked one_pong reports_unprocessed
fields_harmless i fields end = record { acks = refl; pongs = refl; names = λ j. refl }

pub fields_flow : (i : ℕ) (fields : List Field) (end : Bool) (j : ℕ)
    → flow_on j (FieldsEvent i fields end) ≡ 0
unfolding flow_on
fields_flow i fields end j = refl

fields_shows : (i : ℕ) (fields : List Field) (end : Bool)
    → processed_by (FieldsEvent i fields end) ≡ i
unfolding processed_by
fields_shows i fields end = refl

-- The greatest stream that was processed is as before after an event that shows no greater one.
pub taken_low : (b : Bool) (event : Event) (reported : List Event)
    → (b ≡ true → processed_by event ≤ greatest_processed reported)
    → (if b then greatest_processed (event ∷ reported) else 0) ≡ (if b then greatest_processed
    reported else 0)
unfolding greatest_processed
taken_low true event reported low = omega (arith, low refl)
taken_low false event reported low = refl

-- the core with a block that was read and an event that was reported
abbrev pub with_block : Core → ℕ → Bool → List ℕ → Event → Core
with_block c i end octets event = reads (report c event) (block i end octets)

-- Others are as they were.
pub block_same : (c : Core) (i : ℕ) (end : Bool) (octets : List ℕ) (event : Event) (j : ℕ)
    → ChangesNoStream event → flow_on j event ≡ 0 → j ≢ i
    → SameAt j c (with_block c i end octets event)
block_same c i end octets event j q none other =
    same_both j c (report _ _) (with_block c i end octets event) (same_reported j c event q none)
    (same_read j (report c event) (block i end octets) (block_common i end octets).settings
    (block_apart i end octets j other) (block_gives i end octets j))

-- The stream with the peer's end is what the log says.
block_said : (c : Core) (i : ℕ) (end : Bool) (octets : List ℕ) (event : Event)
    → one_acked event ≡ 0 → flow_on i event ≡ 0
    → record (said c i) { ended_in = (said c i).ended_in || end }
    ≡ said (with_block c i end octets event) i
unfolding given_on total reported_total value_read
block_said c i end octets event acks flow =
    let d : Core = with_block c i end octets event in
    same_stream (record (said c i) { ended_in = (said c i).ended_in || end }) (said d i)
    (rw (block_gives i end octets i, zero-add) refl)
    (rw (block_on i end octets i, acks, zero-add, zero-add) refl) (rw (flow, zero-add) refl)
    (rw (block_ends i end octets) (or_swapped (list_any (ends i) c.received) end)) refl

-- What an end keeps where a block is read and an event is reported, by what it makes of the
-- streams.
pub block_advances : (h : CoreFacts) (c : Core) (i : ℕ) (end : Bool) (octets : List ℕ)
    (event : Event) (decoded : Option Decoded) (streams : Streams)
    → ChangesNoStream event → StreamsOf streams (with_block c i end octets event) → Advances h c
    → Advances (record h {
      reading = record h.reading {
        table = table_after h.reading.table decoded (block i end octets);
      };
      streams = streams;
    }) (record (with_block c i end octets event) {
      table = table_after c.table decoded (block i end octets);
    })
block_advances h c i end octets event decoded streams q are g =
    let item : Item = block i end octets in
    let one = beside_table h c decoded item (beside_of h c g) in
    let h1 : CoreFacts = record h {
      reading = record h.reading { table = table_after h.reading.table decoded item };
    } in
    let c1 : Core = record c { table = table_after c.table decoded item } in
    let two = beside_reported h1 c1 event q.acks q.pongs one in
    let three = beside_read h1 (report c1 event) item h.windows.send h.windows.recv
    (block_common i end octets) (omega (arith, block_gives i end octets 0))
    (omega (arith, block_takes i end octets)) two in
    advances_with (record h1 { streams = streams }) (reads (report c1 event) item) are
    (assumption three)

-- What of a log a block on an active stream wants: at a server the stream was processed.
abbrev pub IsTaken : Core → ℕ → Type 0
IsTaken c i = is_server c.role ≡ true → i ≤ greatest_processed c.reported

-- What a block on an active stream makes of an end.
pub later_reported : (e : End) (log : Log) (decoded : Option Decoded) (i : ℕ) (end : Bool)
    (octets : List ℕ) → active_by_items (core log) i ≡ true → i ≤ greatest_used (core log)
    → IsTaken (core log) i → Waits e log → Going e (core log)
    → After (after_reported e decoded (block i end octets)) (with_verdict log decoded
    (block i end octets) Reported)
unfolding with_verdict after_reported replies_to events_of discarded_flow stream_of_item with_sent
later_reported e log decoded i end octets alive low taken w g =
    let c : Core = core log in
    let item : Item = block i end octets in
    let fields = decoded_fields decoded in
    let event : Event = FieldsEvent i fields end in
    let q = fields_harmless i fields end in
    rw (stream_said e c i g alive)
    (read_by e log decoded i end item event
    (record e.reading { table = table_after e.reading.table decoded item }) e.windows
    (record (said c i) { ended_in = (said c i).ended_in || end })
    ((list_any (ends i) log.received || end) && list_any (ends i) log.sent) refl alive
    (block_ends i end octets) (block_resets i end octets i) q
    (block_said c i end octets event q.acks (fields_flow i fields end i))
    (λ j other. block_same c i end octets event j q (fields_flow i fields end j) other)
    (block_used c.role i end octets c.received c.sent low)
    (taken_low (is_server c.role) event c.reported
    (λ server. omega (arith, taken server, fields_shows i fields end)))
    (λ streams are. block_advances (core_facts e) c i end octets event decoded streams q are g)
    g.windows.unreturned w g)

-- A stream that this end has closed isn't active.
pub closed_dead : (c : Core) (i : ℕ) → is_closed_by_us c.role i c.sent ≡ true
    → active_by_items c i ≡ false
unfolding is_closed_by_us
closed_dead c i closed =
    false_from_ne_true (active_by_items c i) (λ alive.
    let parts = active_parts c.role i c.received c.sent c.reported alive in
    elim (or_cases (list_any (resets i) c.sent) (is_above c.role i c.sent) closed) [
      | inl was ↦ both_ways _ (lasts_parts i c.received c.sent parts.lasts).kept was
      | inr above ↦ both_ways _ parts.below above
    ])

-- Streams of which the log says the same, where perhaps a greater number was used.
streams_higher : (s : Streams) (highest : ℕ) (c d : Core) → ((j : ℕ) → SameAt j c d)
    → highest ≡ greatest_used d → greatest_used c ≤ greatest_used d → processed d ≡ processed c
    → total one_reset d.sent ≡ total one_reset c.sent → StreamsOf s c
    → StreamsOf (record s { highest = highest }) d
streams_higher s highest c d same is more shown count g =
    let next : (greatest_used d - greatest_used c) + (greatest_used c + 1) ≡ greatest_used d + 1 =
    omega (arith, more) in
    let high : count_below (greatest_used d + 1) (active_by_items c)
    ≡ count_below (greatest_used c + 1) (active_by_items c) =
    ap (λ (n : ℕ). count_below n (active_by_items c)) (sym next)
    ∙ count_high (greatest_used d - greatest_used c) (greatest_used c + 1) (active_by_items c)
    (λ j above. none_above c j (omega (arith, above))) in
    record {
      entries = λ j. kept_at s.entries j c d (same j) (g.entries j);
      active_count = g.active_count ∙ sym (count_same _ _ _ (λ j. (same j).active) ∙ high);
      highest = is;
      last_processed = g.last_processed ∙ sym shown;
      resets = g.resets ∙ sym count;
    }

-- The greatest number that was used after a block, by the role.
highest_block : (role : Role) (i h : ℕ) (end : Bool) (octets : List ℕ)
    (received sent : List Item) → (is_server role ≡ true → (i % 2 == 1) ≡ true)
    → h ≡ greatest_block (openings role received sent)
    → (if is_server role && i % 2 == 1 && nat_lt h i then i else h)
    ≡ greatest_block (openings role (block i end octets ∷ received) sent)
unfolding greatest_block
highest_block Client i h end octets received sent odd is = is
highest_block Server i h end octets received sent odd is =
    rw (odd refl) (by (nat_lt h i) refl)
  where
    by : (b : Bool) → nat_lt h i ≡ b → (if b then i else h) ≡ max i (greatest_block received)
    by true less = let above : h < i = ltb-true h i less in omega (arith, above, is)
    by false most = let low : i ≤ h = ltb-false h i most in omega (arith, low, is)

-- A block lessens no greatest number.
used_more : (role : Role) (i : ℕ) (end : Bool) (octets : List ℕ) (received sent : List Item)
    → greatest_block (openings role received sent)
    ≤ greatest_block (openings role (block i end octets ∷ received) sent)
unfolding greatest_block
used_more Client i end octets received sent = omega arith
used_more Server i end octets received sent = omega arith

-- The log says the same of every number after a block on a stream that this end has closed.
ignored_same : (c : Core) (i : ℕ) (end : Bool) (octets : List ℕ)
    → is_closed_by_us c.role i c.sent ≡ true → (j : ℕ) → SameAt j c (reads c (block i end octets))
ignored_same c i end octets closed j = elim (cases_eq j i) [
  | inl here ↦
      let dead = closed_dead c i closed in
      rw here (record {
        active = closed_dead (reads c (block i end octets)) i closed ∙ sym dead;
        was_reset = refl;
        stream = λ alive. absurd (both_ways (active_by_items c i) dead alive);
      })
  | inr other ↦ same_read j c (block i end octets) (block_common i end octets).settings
      (block_apart i end octets j other) (block_gives i end octets j)
]

-- What an end keeps where a block on a stream that it has closed is read.
ignored_advances : (h : CoreFacts) (c : Core) (i highest : ℕ) (end : Bool) (octets : List ℕ)
    (decoded : Option Decoded) → is_closed_by_us c.role i c.sent ≡ true
    → highest ≡ greatest_used (reads c (block i end octets)) → Advances h c
    → Advances (record h {
      reading = record h.reading {
        table = table_after h.reading.table decoded (block i end octets);
      };
      streams = record h.streams { highest = highest };
    }) (record (reads c (block i end octets)) {
      table = table_after c.table decoded (block i end octets);
    })
ignored_advances h c i highest end octets decoded closed is g =
    let item : Item = block i end octets in
    let one = beside_table h c decoded item (beside_of _ _ g) in
    let h1 : CoreFacts = record h {
      reading = record h.reading { table = table_after h.reading.table decoded item };
    } in
    let c1 : Core = record c { table = table_after c.table decoded item } in
    let two = beside_read h1 c1 item h.windows.send h.windows.recv (block_common i end octets)
    (omega (arith, block_gives i end octets 0)) (omega (arith, block_takes i end octets)) one in
    advances_with (record h1 { streams = record h.streams { highest = highest } }) (reads c1 item)
    (streams_higher h.streams highest c (reads c item) (ignored_same c i end octets closed) is
    (used_more c.role i end octets c.received c.sent) refl refl g.streams) (assumption two)

-- What a block on a stream that this end has closed makes of an end.
pub block_ignored : (e : End) (log : Log) (decoded : Option Decoded) (i : ℕ) (end : Bool)
    (octets : List ℕ) → is_closed_by_us log.role i log.sent ≡ true
    → (is_server log.role ≡ true → (i % 2 == 1) ≡ true) → Waits e log → Going e (core log)
    → After (after_ignored e decoded (block i end octets)) (with_verdict log decoded
    (block i end octets) NoEvent)
unfolding with_verdict after_ignored replies_to events_of discarded_flow stream_of_item with_sent
    with_reported
block_ignored e log decoded i end octets closed odd w g =
    let item : Item = block i end octets in
    let highest : ℕ = if is_fresh e i then i else e.streams.highest in
    let is : highest ≡ greatest_used (reads (core log) item) =
    ap (λ (role : Role). if is_server role && i % 2 == 1 && nat_lt e.streams.highest i then i
    else e.streams.highest) w.same_role ∙ highest_block _ _ _ _ _ _ _ odd g.streams.highest in
    let dead = closed_dead (core log) i closed in
    unsettled (record (with_table_after e decoded item) {
      streams = record e.streams { highest = highest };
    }) (read log decoded item) [] _ (omega (arith, dead_owing, block_takes)) w g.windows.unreturned
    (ignored_advances (core_facts e) (core log) i highest end octets decoded closed is g)
