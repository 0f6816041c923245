-- What an item that is read keeps of what every log has, by its verdict.
use Rattle.h2_laws_machine.proofs.Names
use Names.{◌≡◌, ℕ, ◌+◌, ◌≤◌, ◌<◌, Bool, true, false, if◌then◌else◌, List, [], ◌∷◌, ◌++◌, Option}
use Names.{Some, None, refl, sym, ap, subst, ◌∙◌, inl, inr, arith, list_any, both_ways, or_cases}
use Names.{false_from_ne_true, ltb-true, eqb-true, ne_eqb, cases_eq, Code, ProtocolError, Data}
use Names.{Reset, Settings, Ping, GoAway, WindowUpdate, Item, alone, block, log_view, data_on}
use Names.{increment_on, is_block_on, ends, resets, is_goaway, is_goaway_below, one_ping, total}
use Names.{greatest_block, stream_of_item, one_acked, one_pong, reported_total, greatest_processed}
use Names.{processed_by, settings_count, State, Idle, Active, ClosedByUs, is_above, is_closed_by_us}
use Names.{when, Log, acked, state, newest_ping, Verdict, ConnectionFault, StreamFault, NoEvent}
use Names.{Reported, data_verdict, reset_verdict, update_verdict, block_verdict, opening_verdict}
use Names.{Decoded, verdict_by_rules, verdict_of_block, events_of, Role, Client, Server, total_one}
use Names.{state_idle, or_from, is_awaited_ping, verdict_of_fault, closed_by_us_is, events_unnamed}
use Rattle.h2_spec_log.specs.Log.{ping_waits}
use Rattle.h2_laws_log.proofs.ItemLists.{any_after, total_none}
use Rattle.h2_laws_machine.proofs.UpInvariant.{IsUpLog, Reads, idle_above}

-- Where a number is idle, at a client, a block on it is a fault of the connection.
block_fault : (log : Log) (decoded : Option Decoded) (i : ℕ) → log.role ≡ Client
    → state log i ≡ Idle → (code : Code)
    × (verdict_of_block (log_view log) i decoded ≡ ConnectionFault code)
unfolding block_verdict
block_fault log None i client idle = (_, refl)
block_fault log (Some decoded) i client idle = (ProtocolError, rw (idle, client) refl)

-- an item that isn't a fault of the connection concerns no idle number, at a client
unseen_item : (log : Log) (decoded : Option Decoded) (item : Item) (i : ℕ) → log.role ≡ Client
    → greatest_block log.sent < i
    → ((code : Code) → verdict_by_rules (log_view log) decoded item ≡ ConnectionFault code → ⊥)
    → (ends i item ≡ false) × (resets i item ≡ false) × (increment_on i item ≡ 0)
    × (data_on i item ≡ 0)
unfolding verdict_by_rules ends resets increment_on data_on data_verdict reset_verdict
    update_verdict
unseen_item log decoded (block stream end octets) i client above none = elim (cases_eq stream i) [
  | inl same ↦
      let idle : state log stream ≡ Idle =
      state_idle _ _ _ (idle_above log.role stream log.received log.sent client (omega arith)) in
      let fault = block_fault log decoded stream client idle in absurd (none fault.0 fault.1)
  | inr other ↦ (rw (ne_eqb stream i other) refl, refl, refl, refl)
]
unseen_item log decoded (alone (Data stream end octets pad)) i client above none =
    elim (cases_eq stream i) [
      | inl same ↦
          let idle : state log stream ≡ Idle = state_idle _ _ _ (idle_above _ _ _ log.sent client
          (omega arith)) in
          absurd (none ProtocolError (rw idle refl))
      | inr other ↦ (rw (ne_eqb stream i other) refl, refl, refl, rw (ne_eqb stream i other) refl)
    ]
unseen_item log decoded (alone (Reset stream code)) i client above none = elim (cases_eq stream i) [
  | inl same ↦
      let idle : state log stream ≡ Idle =
      state_idle _ _ _ (idle_above log.role stream log.received log.sent client (omega arith)) in
      absurd (none ProtocolError (rw idle refl))
  | inr other ↦ (refl, ne_eqb stream i other, refl, refl)
]
unseen_item log decoded (alone (WindowUpdate stream increment)) i client above none =
    elim (cases_eq stream i) [
      | inl same ↦
          let idle : state log stream ≡ Idle = state_idle _ _ _ (idle_above _ _ _ log.sent client
          (omega arith)) in
          absurd (none ProtocolError (rw (ne_eqb stream 0 (λ zero_stream. omega arith), idle) refl))
      | inr other ↦ (refl, refl, rw (ne_eqb stream i other) refl, refl)
    ]
unseen_item log decoded item i client above none = (refl, refl, refl, refl)

-- A verdict of pairs reports nothing.
pub fault_reported : (x : Option Code) → verdict_of_fault x ≡ Reported → ⊥
fault_reported None is = cc
fault_reported (Some code) is = cc

-- Nor does it reset a stream.
pub fault_resets : (x : Option Code) (code : Code) → verdict_of_fault x ≡ StreamFault code → ⊥
fault_resets None code is = cc
fault_resets (Some other) code is = cc

-- What is reported by a test passes it.
pub reported_by : (b : Bool) → (if b then Reported else NoEvent) ≡ Reported → b ≡ true
reported_by true is = refl
reported_by false is = cc

-- Acknowledgments that are reported were awaited.
acks_of : (log : Log) (decoded : Option Decoded) (v : Verdict) (item : Item)
    → verdict_by_rules (log_view log) decoded item ≡ v → IsUpLog log
    → reported_total one_acked (events_of (log_view log) decoded v item) + reported_total one_acked
    log.reported ≤ settings_count log.sent
unfolding events_of reported_total one_acked verdict_by_rules
acks_of log decoded Reported (alone (Settings false pairs)) is f = absurd (fault_reported _ is)
acks_of log decoded Reported (alone (Settings true pairs)) is f =
    omega (arith, ltb-true (acked log) (settings_count log.sent) (reported_by _ is))
acks_of log decoded v item is f = omega (arith, f.acks)

-- A PING's answer that is awaited is one where there is a PING that waits.
awaited_waits : (octets newest : List ℕ) (waits : Bool)
    → is_awaited_ping octets (when waits newest) ≡ true → waits ≡ true
awaited_waits octets newest true is = refl
awaited_waits octets newest false is = absurd (both_ways false refl is)

-- Answers that are reported were awaited.
pongs_of : (log : Log) (decoded : Option Decoded) (v : Verdict) (item : Item)
    → verdict_by_rules (log_view log) decoded item ≡ v → IsUpLog log
    → reported_total one_pong (events_of (log_view log) decoded v item) + reported_total one_pong
    log.reported ≤ total one_ping log.sent
unfolding events_of reported_total one_pong verdict_by_rules
pongs_of log decoded Reported (alone (Ping false octets)) is f = cc
pongs_of log decoded Reported (alone (Ping true octets)) is f =
    omega (
      arith,
      ltb-true (reported_total one_pong log.reported) (total one_ping log.sent)
          (awaited_waits octets (newest_ping log.sent) (ping_waits log) (reported_by _ is)),
    )
pongs_of log decoded v item is f = omega (arith, f.pongs)

-- GOAWAY below a number is GOAWAY.
below_goaway : (i : ℕ) (sent : List Item) → list_any (is_goaway_below i) sent ≡ true
    → list_any is_goaway sent ≡ true
unfolding is_goaway_below is_goaway
below_goaway i [] some = absurd (both_ways false refl some)
below_goaway i (alone (GoAway last code debug) ∷ sent) some = refl
below_goaway i (item ∷ sent) some = below_goaway i sent some

-- Nothing is above where no GOAWAY was written.
pub above_none : (role : Role) (i : ℕ) (sent : List Item) → list_any is_goaway sent ≡ false
    → is_above role i sent ≡ false
unfolding is_above
above_none Client i sent none = refl
above_none Server i sent none =
    false_from_ne_true _ (λ some. both_ways _ none (below_goaway i sent some))

-- A block that is ignored is on a stream that this end has closed, where no GOAWAY was written, by
-- its state.
ignored_by : (s : State) (opens full ended large : Bool)
    → block_verdict s opens false full ended large ≡ NoEvent → s ≡ ClosedByUs
unfolding block_verdict opening_verdict
ignored_by Idle true false ended true is = cc
ignored_by ClosedByUs opens full ended large is = refl
ignored_by Active opens full false true is = cc
ignored_by s opens full ended large is = cc

-- A block that is ignored is on a stream that was reset, where no GOAWAY was written.
ignored_reset : (log : Log) (decoded : Option Decoded) (i : ℕ)
    → verdict_of_block (log_view log) i decoded ≡ NoEvent → list_any is_goaway log.sent ≡ false
    → list_any (resets i) log.sent ≡ true
unfolding is_closed_by_us
ignored_reset log None i is none = cc
ignored_reset log (Some decoded) i is none =
    let state : state log i ≡ ClosedByUs = ignored_by (state log i) _ _ _ _ (rw none at is) in
    elim (or_cases _ _ (closed_by_us_is _ _ _ state)) [
      | inl reset ↦ reset
      | inr above ↦ absurd (both_ways _ (above_none log.role i log.sent none) above)
    ]

-- A stream that is active after its block was processed.
active_processed : (log : Log) (decoded : Option Decoded) (v : Verdict) (item : Item)
    (items news : List Item) (i : ℕ) → verdict_by_rules (log_view log) decoded item ≡ v
    → news ≡ items ++ log.sent
    → ((code : Code) → v ≡ ConnectionFault code → ⊥)
    → ((code : Code) → v ≡ StreamFault code → list_any (resets (stream_of_item item)) news ≡ true)
    → is_block_on i item ≡ true → list_any is_goaway log.sent ≡ false
    → list_any (resets i) news ≡ false
    → i ≤ greatest_processed (events_of (log_view log) decoded v item ++ log.reported)
unfolding verdict_by_rules is_block_on events_of greatest_processed processed_by stream_of_item
active_processed log decoded (ConnectionFault code) (block stream end octets) items news i is line
    none reset here stays kept = absurd (none code refl)
active_processed log decoded (StreamFault code) (block stream end octets) items news i is line none
    reset here stays kept =
    let same : stream ≡ i = eqb-true stream i here in
    absurd (both_ways _ kept (subst (λ (j : ℕ). list_any (resets j) news ≡ true) same
    (reset code refl)))
active_processed log decoded NoEvent (block stream end octets) items news i is line none reset here
    stays kept =
    let same : stream ≡ i = eqb-true stream i here in
    let before : list_any (resets i) log.sent ≡ true = subst
    (λ (j : ℕ). list_any (resets j) log.sent ≡ true) same (ignored_reset _ _ stream is stays) in
    absurd (both_ways _ kept (ap (list_any (resets i)) line
    ∙ any_after (resets i) items log.sent before))
active_processed log decoded Reported (block stream end octets) items news i is line none reset here
    stays kept = omega (arith, eqb-true stream i here)
active_processed log decoded v (alone frame) items news i is line none reset here stays kept =
    absurd (both_ways false refl here)

-- An item that isn't a fault of the connection keeps to what is asked of it.
pub item_reads : (log : Log) (decoded : Option Decoded) (v : Verdict) (item : Item)
    (items news : List Item) → verdict_by_rules (log_view log) decoded item ≡ v
    → news ≡ items ++ log.sent
    → ((code : Code) → v ≡ ConnectionFault code → ⊥)
    → ((code : Code) → v ≡ StreamFault code → list_any (resets (stream_of_item item)) news ≡ true)
    → IsUpLog log → Reads log.role log.received log.sent news log.reported
    (events_of (log_view log) decoded v item) item
item_reads log decoded v item items news is line none reset f =
    record {
      acks = acks_of log decoded v item is f;
      pongs = pongs_of log decoded v item is f;
      processed = λ i here server stays kept active_is. active_processed log decoded v item items
          news i
          is line none reset here stays kept;
      clear = λ client i above.
          let parts = unseen_item _ _ item i client above (λ code fault. none code (sym is ∙
          fault)) in
          record {
            ended = or_from (ends i item) false parts.0 refl;
            reset = or_from (resets i item) false parts.1 refl;
            given = total_one (increment_on i) item [] ∙ rw (parts.2, total_none (increment_on i))
                refl;
            no_data = total_one (data_on i) item [] ∙ rw (parts.3, total_none (data_on i)) refl;
            unnamed = events_unnamed log decoded v item i;
          };
    }
