-- What an end replies to what it reads, and reports of it, is sound.
use Rattle.h2_laws_log.proofs.Names
use Names.{list_any, and_parts, and_from, eqb-true, ne_eqb, both_ways, or_cases, or_left, or_from}
use Names.{eq-eqb, cases_eq, Data, Reset, Settings, Ping, payload_of, Item, alone, block, Role}
use Names.{Client, Server, total, increment_on, data_on, data_of, one_ping, one_answer, is_block_on}
use Names.{resets, opens_from, stream_of_item, settings_count, one_settings, one_ack, is_server}
use Names.{Event, DataEvent, ResetEvent, flow_on, reported_total, one_acked, one_pong}
use Names.{reports_unprocessed, Idle, is_active, is_used, openings, state_by, active}
use Names.{HasAcknowledged, AllowedHistory, starts, reads, writes, Allowed, MayReset, ◌≡◌, ◌≢◌, ℕ}
use Names.{◌≤◌, ◌==◌, ◌%◌, ◌&&◌, Bool, true, false, if◌then◌else◌, List, [], ◌∷◌, ◌++◌, length}
use Names.{Option, refl, sym, inl, inr, arith, rules}
use Rattle.h2_laws_log.proofs.ItemLists.{any_after}
use Rattle.h2_laws_log.proofs.ReaderStates.{active_parts, active_unnamed, active_used, lasts_parts}
use Rattle.h2_laws_log.proofs.ReaderStates.{opens_here}
use Rattle.h2_laws_log.proofs.LogHistory.{History, active_in_view}
use Rattle.h2_laws_log.proofs.LogInvariant.{Good, Moves}

-- what stands among the openings stands among more
openings_more : (p : Item → Bool) (role : Role) (news items received sent : List Item)
    → list_any p (openings role received sent) ≡ true
    → list_any p (openings role (news ++ received) (items ++ sent)) ≡ true
openings_more p Client news items received sent here = any_after p items sent here
openings_more p Server news items received sent here = any_after p news received here

-- A number that is used stays so.
pub used_more : (role : Role) (i : ℕ) (news items received sent : List Item)
    → is_used role i received sent ≡ true
    → is_used role i (news ++ received) (items ++ sent) ≡ true
unfolding is_used
used_more role i news items received sent used =
    let both = and_parts _ _ used in and_from _ _ both.0 (openings_more
    (opens_from i) role news items received sent both.1)

-- what may be reset is used
allowed_reset : (role : Role) (i : ℕ) (received sent : List Item) (item : Item)
    → Allowed role received sent item → resets i item ≡ true
    → is_used role i received sent ≡ true
unfolding resets
allowed_reset role i received sent (block stream end octets) allowed is = absurd
    (both_ways false refl is)
allowed_reset role i received sent (alone (Reset stream code)) allowed is = rw (←
    (eqb-true stream i is)) (allowed.1).used
allowed_reset role i received sent (alone frame) allowed is = absurd (both_ways false refl is)

-- an opening resets nothing
settings_reset : (i : ℕ) (ack : Bool) (pairs : List (ℕ × ℕ))
    → resets i (alone (Settings ack pairs)) ≡ false
unfolding resets
settings_reset i ack pairs = refl

-- What was reset is used.
pub resets_used : (role : Role) (i : ℕ) (received sent : List Item)
    → AllowedHistory role received sent → list_any (resets i) sent ≡ true
    → is_used role i received sent ≡ true
resets_used role i _ _ (starts values ok) some = absurd (both_ways _ (or_from _ _
    (settings_reset i false _) refl) some)
resets_used role i _ sent (reads {received = received} item with_sent) some =
    used_more role i (item ∷ []) [] received sent (resets_used role i received sent with_sent some)
resets_used role i received _ (writes {sent = sent} item with_sent allowed) some =
    used_more role i [] (item ∷ []) received sent (elim (or_cases _ _ some) [
      | inl here ↦ allowed_reset role i received sent item allowed here
      | inr before ↦ resets_used role i received sent with_sent before
    ])

-- an idle stream isn't used
pub idle_unused : (used active closed_by_us : Bool) → state_by used active closed_by_us ≡ Idle
    → used
    ≡ false
idle_unused false active closed_by_us idle = refl
idle_unused true false true idle = absurd (cc)
idle_unused true active closed_by_us idle = absurd (cc)

-- An active stream may be reset.
pub active_resets : (role : Role) (i : ℕ) (received sent : List Item) (reported : List Event)
    → is_active role i received sent reported ≡ true → MayReset role i received sent
active_resets role i received sent reported active =
    let parts = active_parts role i received sent reported active in
    let lasts = lasts_parts i received sent parts.lasts in
    record {
      used = active_used role i received sent reported active;
      once = lasts.kept;
      active = inl (active_unnamed role i received sent reported active);
    }

-- So it may after an item on it is read.
pub read_resets : (role : Role) (item : Item) (received sent : List Item) (reported : List Event)
    → is_active role (stream_of_item item) received sent reported ≡ true
    → MayReset role (stream_of_item item) (item ∷ received) sent
read_resets role item received sent reported active =
    let i = stream_of_item item in
    let before = active_resets role i received sent reported active in
    record {
      used = used_more role i (item ∷ []) [] received sent before.used;
      once = before.once;
      active = inr (record {
        last = item;
        older = received;
        read = refl;
        its_own = refl;
        active = active_unnamed role i received sent reported active;
      });
    }

-- The number of a block that a server reads is used.
pub used_here : (role : Role) (i : ℕ) (end : Bool) (octets : List ℕ) (received sent : List Item)
    → (is_server role && i % 2 == 1) ≡ true
    → is_used role i (block i end octets ∷ received) sent ≡ true
unfolding is_used is_block_on
used_here Client i end octets received sent opens = absurd (both_ways false refl opens)
used_here Server i end octets received sent opens =
    and_from _ _ opens (opens_here i (block i end octets ∷ received) opens (or_left (i == i) _
    (eq-eqb i i refl)))

-- A step that reads an item, and reports of no flow.
quiet : (v : History) (i : ℕ) (item : Item) (replies : List Item) (events : List Event)
    (discarded : ℕ) → AllowedHistory v.role (item ∷ v.received) (replies ++ v.sent)
    → total one_ack replies ≡ one_settings item → total one_answer replies ≡ one_ping item
    → ((j : ℕ) → total (increment_on j) replies ≡ 0)
    → reported_total one_acked events ≤ one_ack item
    → reported_total one_pong events ≤ one_answer item
    → ((j : ℕ) → list_any (reports_unprocessed j) events ≡ false) → ((j : ℕ)
    → reported_total (flow_on j) events ≡ 0) → discarded ≤ data_of item
    → Moves v i (item ∷ []) replies events v.calls discarded
unfolding total settings_count
quiet v i item replies events discarded with_sent acks answers gives acked ponged named flows fits =
    search rules

-- settled after an item that is no SETTINGS
returned_read : (v : History) (item : Item) → Good v → one_settings item ≡ 0
    → HasAcknowledged (item ∷ v.received) v.sent
unfolding settings_count
returned_read v item good none = omega (arith, good.returned, none)

-- A step that reports one event, and replies nothing.
pub one_reported : (v : History) (i : ℕ) (item : Item) (event : Event)
    → AllowedHistory v.role v.received v.sent → one_settings item ≡ 0 → one_ping item ≡ 0
    → one_acked event ≤ one_ack item → one_pong event ≤ one_answer item → ((j : ℕ)
    → reports_unprocessed j event ≡ false)
    → ((j : ℕ) → flow_on j event ≡ 0) → Moves v i (item ∷ []) [] (event ∷ []) v.calls 0
unfolding total reported_total
one_reported v i item event with_sent acks answers acked ponged named flows =
    quiet v i item [] (event ∷ []) 0 (reads item with_sent) (omega (arith, acks)) (omega
    (arith, answers)) (λ j. refl) (omega (arith, acked))
    (omega (arith, ponged)) (λ j. or_from _ _ (named j) refl) (λ j. omega (arith, flows j))
    (omega arith)

-- A step that reports nothing, and replies nothing.
pub none_reported : (v : History) (i : ℕ) (item : Item) (discarded : ℕ)
    → AllowedHistory v.role v.received v.sent → one_settings item ≡ 0 → one_ping item ≡ 0
    → discarded ≤ data_of item → Moves v i (item ∷ []) [] [] v.calls discarded
unfolding total reported_total
none_reported v i item discarded with_sent acks answers fits =
    quiet v i item [] [] discarded (reads item with_sent) (omega (arith, acks)) (omega
    (arith, answers)) (λ j. refl) (omega arith) (omega arith) (λ j. refl) (λ j. refl) fits

-- A step that resets the item's stream.
pub reset_reported : (v : History) (i : ℕ) (item : Item) (code : ℕ) (discarded : ℕ) → Good v
    → AllowedHistory v.role v.received v.sent → one_settings item ≡ 0
    → one_ping item ≡ 0 → MayReset v.role i (item ∷ v.received) v.sent → discarded ≤ data_of item
    → Moves v i (item ∷ []) (alone (Reset i code) ∷ [])
    (ResetEvent i code true ∷ []) v.calls discarded
unfolding total reported_total one_ack one_answer increment_on one_acked one_pong flow_on
    reports_unprocessed
reset_reported v i item code discarded good with_sent acks answers may fits =
    quiet v i item (alone (Reset i code) ∷ []) (ResetEvent i code true ∷ []) discarded
    (writes (alone (Reset i code)) (reads item with_sent) (returned_read v item good acks, may))
    (omega (arith, acks)) (omega (arith, answers)) (λ j. refl)
    (omega arith) (omega arith) (λ j. refl) (λ j. refl) fits

-- A step that acknowledges SETTINGS.
pub settings_answered : (v : History) (i : ℕ) (pairs : List (ℕ × ℕ)) (discarded : ℕ) → Good v
    → AllowedHistory v.role v.received v.sent → discarded ≤ 0
    → Moves v i (alone (Settings false pairs) ∷ []) (alone
    (Settings true []) ∷ []) [] v.calls discarded
unfolding total reported_total one_ack one_answer increment_on one_settings one_ping settings_count
    data_of
settings_answered v i pairs discarded good with_sent fits =
    quiet v i (alone (Settings false pairs)) (alone (Settings true []) ∷ []) [] discarded
    (writes (alone (Settings true [])) (reads (alone (Settings false pairs)) with_sent) (
      omega (arith, good.returned),
      refl,
    )) refl refl (λ j. refl) (omega arith) (omega arith) (λ j. refl) (λ j. refl) fits

-- A step that answers a PING.
pub ping_answered : (v : History) (i : ℕ) (octets : List ℕ) (discarded : ℕ) → Good v
    → AllowedHistory v.role v.received v.sent → discarded ≤ 0
    → Moves v i (alone (Ping false octets) ∷ []) (alone
    (Ping true octets) ∷ []) [] v.calls discarded
unfolding total reported_total one_ack one_answer increment_on one_settings one_ping settings_count
    data_of
ping_answered v i octets discarded good with_sent fits =
    quiet v i (alone (Ping false octets)) (alone (Ping true octets) ∷ []) [] discarded
    (writes (alone (Ping true octets)) (reads (alone (Ping false octets)) with_sent)
    (omega (arith, good.returned), omega (arith, good.answered))) refl refl (λ j. refl)
    (omega arith) (omega arith) (λ j. refl) (λ j. refl) fits

-- the flow of DATA on its stream
flow_here : (i : ℕ) (end : Bool) (octets : List ℕ) (pad : Option ℕ) (j n : ℕ) → n
    ≡ length (payload_of (Data i end octets pad))
    → flow_on j (DataEvent i octets n end) ≡ data_on j (alone (Data i end octets pad))
unfolding flow_on data_on
flow_here i end octets pad j n is = rw is refl

-- flow elsewhere
flow_elsewhere : (i : ℕ) (end : Bool) (octets : List ℕ) (n j : ℕ) → j ≢ i
    → flow_on j (DataEvent i octets n end) ≡ 0
unfolding flow_on
flow_elsewhere i end octets n j other = rw (ne_eqb i j (λ same. other (sym same))) refl

-- a number or nothing is no more than the number
pub chosen_low : (b : Bool) (n : ℕ) → (if b then n else 0) ≤ n
chosen_low true n = omega arith
chosen_low false n = omega arith

-- no more flow than octets
flow_fits : (i : ℕ) (end : Bool) (octets : List ℕ) (n j : ℕ)
    → flow_on j (DataEvent i octets n end) ≤ n
unfolding flow_on
flow_fits i end octets n j = chosen_low (i == j) n

-- A step that reports of DATA on an active stream.
pub data_reported : (v : History) (i : ℕ) (end : Bool) (octets : List ℕ) (pad : Option ℕ)
    → AllowedHistory v.role v.received v.sent → active_in_view v i ≡ true
    → Moves v i (alone (Data i end octets pad) ∷ []) [] (DataEvent i octets (length (payload_of
    (Data i end octets pad))) end ∷ []) v.calls 0
unfolding total reported_total settings_count one_settings one_ping one_acked one_pong
    reports_unprocessed data_of
data_reported v i end octets pad with_sent active =
    let n = length (payload_of (Data i end octets pad)) in
    record {
      with_sent = reads (alone (Data i end octets pad)) with_sent;
      returned = refl;
      answered = refl;
      acked = omega arith;
      ponged = omega arith;
      named = λ j some. absurd (both_ways false refl some);
      gave = λ j some. omega arith;
      reported_read = λ j. omega (arith, flow_here i end octets pad j n refl);
      reported_open = λ j some. elim (cases_eq j i) [
        | inl same ↦ rw same (active_parts v.role i v.received v.sent v.reported active).opened
        | inr other ↦ absurd (some (omega (arith, flow_elsewhere i end octets n j other)))
      ];
      elsewhere = λ j other. omega (arith, flow_elsewhere i end octets n j other);
      kept = λ j. omega arith;
      wider = omega arith;
      wide = λ before. before;
      out = omega arith;
      out_active = λ some. absurd (some (omega arith));
      fits = omega (arith, flow_fits i end octets n i);
    }
