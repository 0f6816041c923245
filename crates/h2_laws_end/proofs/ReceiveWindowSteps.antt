-- What keeps a stream's receive window, and what is owed of it, in step: items that are read, and
-- calls.
use Rattle.h2_laws_end.proofs.Names
use Names.{◌≡◌, ◌∷◌, refl, ◌∙◌, inl, inr, Code, Data, Ping, Item, Role, Log, read}
use Names.{ℕ, code_number, StreamFault, active_parts, increment_on, stream_of_item, reported_total}
use Names.{Bool, length, Option, eq-eqb, ne_eqb, active, Values, Replies, data_on, flow_on, History}
use Names.{true, false, List, ◌++◌, arith, subst, Reset, alone, block, Event, state, total, resets}
use Names.{[], ConnectionFault, state_is_active, closed_by_us_is, is_closed_by_us, verdict_by_rules}
use Names.{both_ways, or_left, payload_of, DataEvent, with_sent, history_of, total_none, replies_to}
use Names.{cases_eq, Settings, log_view, Verdict, NoEvent, Reported, Decoded, stream_of, events_of}
use Rattle.h2_spec_log.specs.Events.{ResetEvent}
use Rattle.h2_laws_end.proofs.ReadVerdicts.{Says, says_of, says_data, says_nothing}
use Rattle.h2_laws_end.proofs.ReceiveWindows.{IsAccounted, Steps, opened_in, quiet_steps}
use Rattle.h2_laws_end.proofs.ReceiveWindows.{active_unclosed, total_one, flow_none}
use Rattle.h2_laws_end.proofs.ReceiveWindows.{PendingAccounted, step_keeps, sent_accounted}

-- Items but DATA.
abbrev pub IsOther : Item → Type 0
IsOther (alone (Data stream end octets pad)) = ⊥
IsOther item = Unit {0}

-- They take nothing of a window.
data_none : (item : Item) (i : ℕ) → IsOther item → data_on i item ≡ 0
unfolding data_on
data_none (block stream end octets) i other = refl
data_none (alone (Data stream end octets pad)) i other = absurd other
data_none (alone frame) i other = refl

-- No flow is reported of them.
events_flow : (log : Log) (decoded : Option Decoded) (verdict : Verdict) (item : Item) (i : ℕ)
    → IsOther item
    → reported_total (flow_on i) (events_of (log_view log) decoded verdict item) ≡ 0
unfolding events_of reported_total flow_on
events_flow log decoded Reported (block stream end octets) i other = refl
events_flow log decoded Reported (alone (Data stream end octets pad)) i other = absurd other
events_flow log decoded Reported (alone frame) i other = refl
events_flow log decoded another item i other = refl

-- Replies return nothing.
replies_give : (verdict : Verdict) (item : Item) (i : ℕ)
    → total (increment_on i) (replies_to verdict item) ≡ 0
unfolding replies_to total increment_on
replies_give NoEvent (alone (Settings false pairs)) i = refl
replies_give NoEvent (alone (Ping false octets)) i = refl
replies_give verdict item i = refl

-- Items but DATA have nothing to do with a stream's octets.
other_steps : (log : Log) (decoded : Option Decoded) (item : Item) (verdict : Verdict) (i : ℕ)
    → IsOther item → IsAccounted (history_of log) i
    → Steps (history_of log) i (item ∷ []) (replies_to verdict item) (events_of
    (log_view log) decoded verdict item) log.calls
other_steps log decoded item verdict i other before =
    quiet_steps (history_of log) _ _ _ _ _ before (total_one _ item (data_none item i other))
    (replies_give verdict item i) (events_flow log decoded verdict item i other) refl

-- DATA takes nothing of other streams.
data_elsewhere : (stream : ℕ) (end : Bool) (octets : List ℕ) (pad : Option ℕ) (i : ℕ)
    → (stream ≡ i → ⊥) → data_on i (alone (Data stream end octets pad)) ≡ 0
unfolding data_on
data_elsewhere stream end octets pad i other = rw (ne_eqb stream i other) refl

-- What is reported of DATA is what it takes.
flow_same : (stream : ℕ) (end : Bool) (octets : List ℕ) (pad : Option ℕ) (i : ℕ)
    → reported_total (flow_on i) (DataEvent stream octets (length (payload_of
    (Data stream end octets pad))) end ∷ []) ≡ total (data_on i) (alone
    (Data stream end octets pad) ∷ [])
unfolding reported_total flow_on total data_on
flow_same stream end octets pad i = refl

-- On a stream that this end has closed by then nothing needs to be kept.
closed_steps : (v : History) (i : ℕ) (reads items : List Item) (events : List Event)
    → IsAccounted v i → is_closed_by_us v.role i (items ++ v.sent) ≡ true
    → total (increment_on i) items ≡ 0 → reported_total (flow_on i) events ≡ 0
    → Steps v i reads items events v.calls
closed_steps v i reads items events before closed gives flows = record {
  within = omega (arith, before.within);
  unopened = λ was none. (flows, gives);
  unread = λ none unclosed. absurd (both_ways _ unclosed closed);
  whole = λ active goes. absurd (both_ways _ (active_unclosed v.role i (reads ++ v.received)
      (items ++ v.sent) (events ++ v.reported) active) closed);
}

-- A stream that is reset is closed by this end.
pub reset_closed : (role : Role) (i code : ℕ) (sent : List Item)
    → is_closed_by_us role i (alone (Reset i code) ∷ sent) ≡ true
unfolding is_closed_by_us resets
reset_closed role i code sent = or_left _ _ (or_left _ _ (eq-eqb i i refl))

-- A reset's event has no flow.
reset_flow : (i stream code : ℕ) (ours : Bool)
    → reported_total (flow_on i) (ResetEvent stream code ours ∷ []) ≡ 0
unfolding reported_total flow_on
reset_flow i stream code ours = refl

-- a reset returns nothing
reset_gives : (i stream code : ℕ) → total (increment_on i) (alone (Reset stream code) ∷ []) ≡ 0
unfolding total increment_on
reset_gives i stream code = refl

-- DATA that is a fault of its stream.
data_fault_steps : (log : Log) (stream : ℕ) (end : Bool) (octets : List ℕ) (pad : Option ℕ)
    (code i : ℕ) → IsAccounted (history_of log) i
    → Steps (history_of log) i (alone (Data stream end octets pad) ∷ []) (alone
    (Reset stream code) ∷ []) (ResetEvent stream code true ∷ []) log.calls
data_fault_steps log stream end octets pad code i before =
    elim (cases_eq stream i) [
      | inl same ↦ closed_steps (history_of log) i _ (alone (Reset stream code) ∷ []) _ before
          (rw same (reset_closed _ _ _ _)) (reset_gives i stream code) (reset_flow i stream code
          true)
      | inr other ↦ quiet_steps (history_of log) i _ _ _ log.calls before (total_one _ _
          (data_elsewhere stream end octets pad i other)) (reset_gives i stream code)
          (reset_flow i stream code true) refl
    ]

-- DATA that is ignored.
data_ignored_steps : (log : Log) (stream : ℕ) (end : Bool) (octets : List ℕ) (pad : Option ℕ)
    (i : ℕ) → IsAccounted (history_of log) i → is_closed_by_us log.role stream log.sent ≡ true
    → Steps (history_of log) i (alone (Data stream end octets pad) ∷ []) [] [] log.calls
data_ignored_steps log stream end octets pad i before closed =
    elim (cases_eq stream i) [
      | inl same ↦ closed_steps (history_of log) i _ [] [] before (rw (← same) closed) (total_none
          _)
          (flow_none i)
      | inr other ↦ quiet_steps (history_of log) _ _ [] [] _ before (total_one _ _
          (data_elsewhere stream end octets pad i other)) (total_none _) (flow_none i) refl
    ]

-- DATA that is reported.
data_reported_steps : (log : Log) (stream : ℕ) (end : Bool) (octets : List ℕ) (pad : Option ℕ)
    (i : ℕ) → IsAccounted (history_of log) i → active log stream ≡ true
    → Steps (history_of log) i (alone (Data stream end octets pad) ∷ []) [] (DataEvent stream octets
    (length (payload_of (Data stream end octets pad))) end ∷ []) log.calls
data_reported_steps log stream end octets pad i before alive = elim (cases_eq stream i) [
  | inl same ↦
      let opened_here : opened_in (history_of log) i ≡ true =
      rw (← same) (active_parts log.role stream log.received log.sent log.reported alive).opened in
      record {
        within = omega (arith, before.within);
        unopened = λ was none. absurd (both_ways _ was opened_here);
        unread = λ none unclosed. absurd (both_ways _ none opened_here);
        whole = λ active goes. (
          omega (arith, total_none (increment_on i)),
          flow_same stream end octets pad i,
        );
      }
  | inr other ↦
      let none = total_one (data_on i) _ (data_elsewhere stream end octets pad i other) in
      quiet_steps (history_of log) i _ [] _ log.calls before none (total_none _)
      (flow_same stream end octets pad i ∙ none) refl
]

-- DATA of which nothing is reported is on a stream that this end has closed; what is reported is on
-- an active one.
abbrev pub IsSilent : Log → Item → Type 0
IsSilent log (alone (Data stream end octets pad)) = is_closed_by_us log.role stream log.sent ≡ true
IsSilent log item = Unit {0}

abbrev pub IsReported : Log → Item → Type 0
IsReported log (alone (Data stream end octets pad)) = active log stream ≡ true
IsReported log item = Unit {0}

-- So does the verdict by the rules.
rules_say : (log : Log) (decoded : Option Decoded) (item : Item)
    → Says (Unit {0}) (IsSilent log item) (IsReported log item) (verdict_by_rules
    (log_view log) decoded item)
unfolding verdict_by_rules
rules_say log decoded (alone (Data stream end octets pad)) =
    says_data (Unit {0}) _ _ (state log stream) _ _ _ (λ is. tt) (λ is. closed_by_us_is _ _ _ is)
    (λ is. state_is_active _ _ _ is)
rules_say log decoded item = says_nothing (verdict_by_rules (log_view log) decoded item)

-- An item keeps to this, by its verdict.
item_steps : (log : Log) (decoded : Option Decoded) (item : Item) (verdict : Verdict) (i : ℕ)
    → IsAccounted (history_of log) i → ((code : Code) → verdict ≡ ConnectionFault code → ⊥)
    → Says (Unit {0}) (IsSilent log item) (IsReported log item) verdict
    → Steps (history_of log) i (item ∷ []) (replies_to verdict item) (events_of
    (log_view log) decoded verdict item) log.calls
unfolding replies_to events_of stream_of_item stream_of
item_steps log decoded (alone (Data stream end octets pad)) (ConnectionFault code) i before none
    says = absurd (none code refl)
item_steps log decoded (alone (Data stream end octets pad)) (StreamFault code) i before none says =
    data_fault_steps log stream end octets pad (code_number code) i before
item_steps log decoded (alone (Data stream end octets pad)) NoEvent i before none says =
    data_ignored_steps log stream end octets pad i before says
item_steps log decoded (alone (Data stream end octets pad)) Reported i before none says =
    data_reported_steps log stream end octets pad i before says
item_steps log decoded (block stream end octets) verdict i before none says =
    other_steps log decoded _ verdict i tt before
item_steps log decoded (alone frame) verdict i before none says =
    other_steps log decoded _ verdict i tt before

-- What stands still stands, with its events, where an item comes and is no fault of the connection.
pub replied_keeps : (role : Role) (values : Values) (i : ℕ) (log : Log) (decoded : Option Decoded)
    (item : Item) (verdict : Verdict) → Replies role values log decoded item verdict
    → IsAccounted (history_of log) i
    → PendingAccounted i (events_of (log_view log) decoded verdict item)
    (with_sent (read log decoded item) (replies_to verdict item))
replied_keeps role values i log decoded item verdict replies before =
    sent_accounted _ _ _ _ (step_keeps (history_of log) _ _ _ _ _ _ before
    (item_steps _ _ _ _ _ before replies.up (subst (Says (Unit {0}) _ _) replies.is
    (says_of _ _ _ _ _ _ (rules_say _ _ _)))))
