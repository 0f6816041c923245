-- What the verdict on an item says of the stream that it ends, resets or opens, and of what is
-- reported of it.
use Rattle.h2_laws_end.proofs.Names
use Names.{◌≡◌, ℕ, ◌==◌, ◌&&◌, Bool, true, false, List, [], ◌∷◌, Option, Some, None, refl, sym, ◌∙◌}
use Names.{inl, inr, subst, list_any, both_ways, or_cases, or_left, and_parts, eqb-true}
use Names.{false_from_ne_true, Code, Data, Reset, Item, alone, block, State, Idle, Active}
use Names.{ClosedByUs, Closed, is_used, Log, active, state, View, log_view, Verdict}
use Names.{ConnectionFault, NoEvent, Reported, Decoded, peer_opens, verdict_of, active_used}
use Names.{state_is_active, used_more, used_here, is_number_used, ◌||◌, stream_of, ends, resets}
use Names.{stream_of_item, state_by, verdict_by_rules, events_of, idle_unused, event_may_close}
use Rattle.h2_spec_log.specs.Events.{reports_unprocessed}
use Rattle.h2_spec_log.specs.Log.{goaway_written}
use Rattle.h2_laws_log.proofs.ReaderStates.{state_active}
use Rattle.h2_laws_end.proofs.ReadVerdicts.{Says, says_data, says_of, says_block, says_reset}
use Rattle.h2_laws_end.proofs.ReadingRules.{IsFaulty}

-- Whether the item ends or resets the stream.
abbrev pub closes : ℕ → Item → Bool
closes i item = ends i item || resets i item

-- Where it does, the stream is its own.
pub closes_own : (i : ℕ) (item : Item) → closes i item ≡ true → stream_of_item item ≡ i
unfolding ends resets stream_of_item stream_of
closes_own i (block stream end octets) is = elim (or_cases (stream == i && end) false is) [
  | inl here ↦ eqb-true stream i (and_parts _ _ here).0
  | inr wrong ↦ absurd (both_ways false refl wrong)
]
closes_own i (alone (Data stream end octets pad)) is =
    elim (or_cases (stream == i && end) false is) [
      | inl here ↦ eqb-true stream i (and_parts _ _ here).0
      | inr wrong ↦ absurd (both_ways false refl wrong)
    ]
closes_own i (alone (Reset stream code)) is = eqb-true stream i is
closes_own i (alone frame) is = absurd (both_ways false refl is)

-- The state of an active stream.
active_state : (log : Log) (i : ℕ) → active log i ≡ true → state log i ≡ Active
active_state log i alive = state_active _ _ _ (active_used _ _ _ _ log.reported alive) alive

-- An active stream is in no other state.
not_closed_by_us : {A : Type 0} (s : State) → s ≡ Active → s ≡ ClosedByUs → A
not_closed_by_us s alive is = let both : Active ≡ ClosedByUs = sym alive ∙ is in cc

not_closed : {A : Type 0} (s : State) → s ≡ Active → s ≡ Closed → A
not_closed s alive is = let both : Active ≡ Closed = sym alive ∙ is in cc

not_idle : {A : Type 0} (s : State) → s ≡ Active → s ≡ Idle → A
not_idle s alive is = let both : Active ≡ Idle = sym alive ∙ is in cc

-- Of an item that ends or resets an active stream something is reported, by the rules.
active_reported : (log : Log) (decoded : Option Decoded) (item : Item)
    → state log (stream_of_item item) ≡ Active → (i : ℕ) → closes i item ≡ true
    → Says (Unit {0}) ⊥ (Unit {0}) (verdict_by_rules (log_view log) decoded item)
unfolding verdict_by_rules stream_of_item stream_of ends resets
active_reported log None (block stream end octets) alive i is = tt
active_reported log (Some decoded) (block stream end octets) alive i is =
    says_block (Unit {0}) ⊥ (Unit {0}) (state log stream) (peer_opens (log_view log) stream)
    _ _ _ _ (λ idle opens. not_idle (state log stream) alive idle) (λ same. (tt, tt))
    (not_closed_by_us (state log stream) alive)
active_reported log decoded (alone (Data stream end octets pad)) alive i is =
    says_data (Unit {0}) ⊥ (Unit {0}) (state log stream) _ _ _ (λ same. tt)
    (not_closed_by_us (state log stream) alive) (λ same. tt)
active_reported log decoded (alone (Reset stream code)) alive i is =
    says_reset (Unit {0}) ⊥ (Unit {0}) (state log stream) (λ same. tt)
    (not_closed_by_us (state log stream) alive) (not_closed (state log stream) alive)
active_reported log decoded (alone frame) alive i is = absurd (both_ways false refl is)

-- An item of which nothing is reported, and that is no fault, closes no active stream.
pub silent_keeps : (log : Log) (decoded : Option Decoded) (item : Item) (i : ℕ)
    → verdict_of (log_view log) decoded item ≡ NoEvent → active log i ≡ true
    → closes i item ≡ false
silent_keeps log decoded item i is alive =
    false_from_ne_true _ (λ closed.
    let own = closes_own i item closed in
    let here : state log (stream_of_item item) ≡ Active =
    subst (λ (j : ℕ). state log j ≡ Active) (sym own) (active_state log i alive) in
    subst (Says (Unit {0}) ⊥ (Unit {0})) is (says_of (Unit {0}) ⊥ (Unit {0}) log decoded item
    (active_reported log decoded item here i closed)))

-- What is reported of an item that closes a stream may close it.
pub reported_closes : (view : View) (decoded : Option Decoded) (item : Item) (i : ℕ)
    → closes i item ≡ true
    → list_any (event_may_close i) (events_of view decoded Reported item) ≡ true
unfolding ends resets events_of event_may_close
reported_closes view decoded (block stream end octets) i is = is
reported_closes view decoded (alone (Data stream end octets pad)) i is = is
reported_closes view decoded (alone (Reset stream code)) i is = or_left _ _ is
reported_closes view decoded (alone frame) i is = absurd (both_ways false refl is)

-- What is reported of an item names no stream as unprocessed.
pub events_name_none : (view : View) (decoded : Option Decoded) (verdict : Verdict) (item : Item)
    (i : ℕ) → list_any (reports_unprocessed i) (events_of view decoded verdict item) ≡ false
unfolding events_of reports_unprocessed
events_name_none view decoded Reported (block stream end octets) i = refl
events_name_none view decoded Reported (alone (Data stream end octets pad)) i = refl
events_name_none view decoded verdict item i = refl

-- A stream in another state than Idle is used.
state_used : (is_number_used active closed_by_us : Bool)
    → (state_by is_number_used active closed_by_us ≡ Idle → ⊥)
    → is_number_used ≡ true
state_used true active closed_by_us other = refl
state_used false active closed_by_us other = absurd (other refl)

-- So it is once the item is read.
known_used : (log : Log) (item : Item) (i : ℕ) → (state log i ≡ Idle → ⊥)
    → is_used log.role i (item ∷ log.received) log.sent ≡ true
known_used log item i other =
    used_more log.role i (item ∷ []) [] log.received log.sent (state_used _ _ _ other)

-- One state isn't another.
no_idle : (s one : State) → s ≡ one → (one ≡ Idle → ⊥) → s ≡ Idle → ⊥
no_idle s one is other idle = other (sym is ∙ idle)

-- The stream of an item that ends or resets it is used once the item is read, by the rules.
used_reported : (log : Log) (decoded : Option Decoded) (item : Item) (i : ℕ) → closes i item ≡ true
    → Says (IsFaulty log item) (IsFaulty log item) (IsFaulty log item)
    (verdict_by_rules (log_view log) decoded item)
unfolding verdict_by_rules stream_of_item stream_of ends resets
used_reported log None (block stream end octets) i is = tt
used_reported log (Some decoded) (block stream end octets) i is =
    let item = block stream end octets in
    let known : (one : State) → (one ≡ Idle → ⊥) → state log stream ≡ one → IsFaulty log item = λ
    one other same. known_used log item stream (no_idle (state log stream) one same other) in
    says_block (IsFaulty log item) (IsFaulty log item) (IsFaulty log item) _ _ _ _ _ _
    (λ idle opens. let now = used_here log.role stream end octets log.received log.sent opens in
    (now, λ left. now, λ stays. now))
    (λ same. (known Active (λ wrong. cc) same, known Active (λ wrong. cc) same))
    (known ClosedByUs (λ wrong. cc))
used_reported log decoded (alone (Data stream end octets pad)) i is =
    let item = alone (Data stream end octets pad) in
    let known : (one : State) → (one ≡ Idle → ⊥) → state log stream ≡ one → IsFaulty log item =
    λ one other same. known_used log item stream (no_idle (state log stream) one same other) in
    says_data (IsFaulty log item) (IsFaulty log item) (IsFaulty log item) (state log stream) _ _ _
    (known Active (λ wrong. cc)) (known ClosedByUs (λ wrong. cc)) (known Active (λ wrong. cc))
used_reported log decoded (alone (Reset stream code)) i is =
    let item = alone (Reset stream code) in
    let known : (one : State) → (one ≡ Idle → ⊥) → state log stream ≡ one → IsFaulty log item =
    λ one other same. known_used log item stream (no_idle (state log stream) one same other) in
    says_reset (IsFaulty log item) (IsFaulty log item) (IsFaulty log item) (state log stream)
    (known Active (λ wrong. cc)) (known ClosedByUs (λ wrong. cc)) (known Closed (λ wrong. cc))
used_reported log decoded (alone frame) i is = absurd (both_ways false refl is)

-- What holds of each verdict but a fault of the connection, holds of this one.
said_of : (A : Type 0) (verdict : Verdict)
    → ((code : Code) → verdict ≡ ConnectionFault code → ⊥) → Says A A A verdict → A
said_of A (ConnectionFault code) on says = absurd (on code refl)
said_of A other on says = says

-- An item that is no fault of the connection ends or resets no stream that isn't used after it.
pub unused_kept : (log : Log) (decoded : Option Decoded) (item : Item) (verdict : Verdict) (i : ℕ)
    → verdict_of (log_view log) decoded item ≡ verdict
    → ((code : Code) → verdict ≡ ConnectionFault code → ⊥)
    → is_used log.role i (item ∷ log.received) log.sent ≡ false → closes i item ≡ false
unused_kept log decoded item verdict i is on unused =
    false_from_ne_true _ (λ closed.
    let says = says_of _ _ _ log decoded item (used_reported log decoded item i closed) in
    let here : IsFaulty log item = said_of (IsFaulty log item) verdict on
    (subst (Says (IsFaulty log item) (IsFaulty log item) (IsFaulty log item)) is says) in
    both_ways _ unused (subst (λ (j : ℕ). is_used log.role j (item ∷ log.received) log.sent ≡ true)
    (closes_own i item closed) here))

-- A block that is reported, of a stream that isn't active, is one that the peer opens, where no
-- GOAWAY was written, and its number wasn't used; by the rules.
abbrev pub IsNew : Log → ℕ → Type 0
IsNew log i = (peer_opens (log_view log) i ≡ true) × (goaway_written log ≡ false)
    × (is_number_used log i ≡ false)

new_by_rules : (log : Log) (decoded : Option Decoded) (i : ℕ) (end : Bool) (octets : List ℕ)
    → active log i ≡ false
    → Says (Unit {0}) (Unit {0}) (IsNew log i)
    (verdict_by_rules (log_view log) decoded (block i end octets))
unfolding verdict_by_rules
new_by_rules log None i end octets inactive = tt
new_by_rules log (Some decoded) i end octets inactive =
    says_block (Unit {0}) (Unit {0}) (IsNew log i) (state log i) (peer_opens (log_view log) i)
    _ _ _ _ (λ idle opens. (tt, λ left. tt, λ stays. (opens, stays, idle_unused _ _ _ idle)))
    (λ same. absurd (both_ways _ inactive (state_is_active _ _ _ same))) (λ closed. tt)

-- And so it is by the verdict.
pub new_reported : (log : Log) (decoded : Option Decoded) (i : ℕ) (end : Bool) (octets : List ℕ)
    → verdict_of (log_view log) decoded (block i end octets) ≡ Reported
    → active log i ≡ false → IsNew log i
new_reported log decoded i end octets is inactive =
    subst (Says (Unit {0}) (Unit {0}) (IsNew log i)) is (says_of (Unit {0}) (Unit {0}) _ _ _ _
    (new_by_rules log decoded i end octets inactive))
