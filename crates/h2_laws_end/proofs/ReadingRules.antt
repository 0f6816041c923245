-- What the verdict on an item says of what is reported of it.
use Rattle.h2_laws_end.proofs.Names
use Names.{◌≡◌, ◌≢◌, ℕ, zero, suc, ◌<◌, ◌==◌, ◌%◌, ◌&&◌, max, Bool, true, false, if◌then◌else◌}
use Names.{List, [], ◌∷◌, Option, Some, None, refl, inl, inr, arith, list_any, both_ways, or_parts}
use Names.{or_cases, and_parts, leb-false, Code, ProtocolError, code_number, Data, Reset, Settings}
use Names.{Ping, GoAway, WindowUpdate, Item, alone, block, Role, Client, Server, is_goaway}
use Names.{is_goaway_below, Event, is_server, State, Active, ClosedByUs, Closed, Log, active, state}
use Names.{log_view, Verdict, ConnectionFault, StreamFault, NoEvent, Reported, Decoded, peer_opens}
use Names.{verdict_of_fault, completes, IsDecodedIn, active_used, state_is_active, used_more}
use Names.{used_here, closed_by_us_is, fault_codes, nat_le, or_right, leb-true, FlowControlError}
use Names.{stream_of, opens_from, stream_of_item, processed_by, greatest_processed, state_by}
use Names.{is_used, is_above, is_closed_by_us, connection_update_verdict, update_verdict}
use Names.{verdict_by_rules, events_of, idle_unused, second_false, ItemRead, its_pong, AreEventsOf}
use Rattle.h2_laws_log.proofs.InvariantCalls.{odd_some}
use Rattle.h2_laws_end.specs.Readings.{its_fields, its_octets, its_reset, its_fault, its_goaway}
use Rattle.h2_laws_end.specs.Readings.{its_acknowledgment, MayBeSilent}
use Rattle.h2_laws_end.proofs.FaultCodes.{HasCode}
use Rattle.h2_laws_end.proofs.GoAwaysRead.{IsTypedGoAway, least_reported}
use Rattle.h2_laws_end.proofs.ReadVerdicts.{Says, says_data, says_any, says_block, says_reset}

-- At a server, a number above all that were used is above all that were processed, and above the
-- last stream of each own GOAWAY.
abbrev pub IsLow : Role → List Item → List Item → List Event → Type 0
IsLow role received sent reported = role ≡ Server → (i : ℕ) → i ≢ 0
    → list_any (opens_from i) received ≡ false
    → (greatest_processed reported < i)
    × (list_any is_goaway sent ≡ true → list_any (is_goaway_below i) sent ≡ true)

-- the same of a log
abbrev pub LogIsLow : Log → Type 0
LogIsLow log = IsLow log.role log.received log.sent log.reported

-- A stream at fault is used.
abbrev pub IsFaulty : Log → Item → Type 0
IsFaulty log item = is_used log.role (stream_of_item item) (item ∷ log.received) log.sent ≡ true

-- An item of which nothing need be reported.
abbrev pub IsUnreported : Log → Item → Type 0
IsUnreported log item = MayBeSilent log.role log.received log.sent log.reported item

-- What is reported: fields of a stream that is used; of SETTINGS and PING those that reply.
abbrev pub IsSaid : Log → Item → Type 0
IsSaid log (block stream end octets) =
    is_used log.role stream (block stream end octets ∷ log.received) log.sent ≡ true
IsSaid log (alone (Settings ack pairs)) = ack ≡ true
IsSaid log (alone (Ping ack octets)) = ack ≡ true
IsSaid log (alone frame) = Unit {0}

-- A block decodes.
abbrev pub IsSeen : Option Decoded → Item → Type 0
IsSeen None (block stream end octets) = ⊥
IsSeen decoded item = Unit {0}

-- A stream that is active is used after an item.
active_faults : (log : Log) (item : Item) (i : ℕ) → active log i ≡ true
    → is_used log.role i (item ∷ log.received) log.sent ≡ true
active_faults log item i alive =
    used_more log.role i (item ∷ []) [] log.received log.sent (active_used _ _ _ _ _ alive)

-- After an own GOAWAY an idle stream that the peer may open is above its last stream.
idle_after_goaway : (role : Role) (i : ℕ) (received sent : List Item) (reported : List Event)
    → IsLow role received sent reported → is_used role i received sent ≡ false
    → (is_server role && i % 2 == 1) ≡ true → list_any is_goaway sent ≡ true
    → is_closed_by_us role i sent ≡ true
unfolding is_used is_closed_by_us is_above
idle_after_goaway Client i received sent reported low unused opens goaway =
    absurd (both_ways false refl opens)
idle_after_goaway Server i received sent reported low unused opens goaway =
    or_right _ _ ((low refl i (odd_some i opens)
    (second_false (i % 2 == 1) _ unused opens)).1 goaway)

-- A closed stream isn't active.
closed_inactive : (used active closed_by_us : Bool) → state_by used active closed_by_us
    ≡ ClosedByUs → active ≡ false
closed_inactive false active closed_by_us is = cc
closed_inactive true true closed_by_us is = cc
closed_inactive true false closed_by_us is = refl

over_inactive : (used active closed_by_us : Bool) → state_by used active closed_by_us ≡ Closed
    → active ≡ false
over_inactive false active closed_by_us is = cc
over_inactive true true closed_by_us is = cc
over_inactive true false closed_by_us is = refl

-- SETTINGS are checked so.
says_settings : (F T : Type 0) (fault : Option Code)
    → Says F (Unit {0}) T (verdict_of_fault fault)
says_settings F T None = tt
says_settings F T (Some code) = tt

-- A reply is checked so.
says_reply : (F S T : Type 0) (b : Bool) → (b ≡ false → S) → T
    → Says F S T (if b then Reported else NoEvent)
says_reply F S T true s t = t
says_reply F S T false s t = s refl

-- WINDOW_UPDATE of the connection is checked so, by its tests.
says_connection : (F : Type 0) (none above : Bool)
    → Says F (Unit {0}) (Unit {0}) (if none then ConnectionFault ProtocolError
    else if above then ConnectionFault FlowControlError else NoEvent)
says_connection F true above = tt
says_connection F false true = tt
says_connection F false false = tt

-- WINDOW_UPDATE of a stream is checked so, by its tests.
says_update_by : (F : Type 0) (none above : Bool) → F
    → Says F (Unit {0}) (Unit {0}) (if none then StreamFault ProtocolError
    else if above then StreamFault FlowControlError else NoEvent)
says_update_by F true above f = f
says_update_by F false true f = f
says_update_by F false false f = tt

says_update : (F : Type 0) (state : State) (increment : ℕ) (above : Bool) → (state ≡ Active → F)
    → Says F (Unit {0}) (Unit {0}) (update_verdict state increment above)
unfolding update_verdict
says_update F Active increment above f = says_update_by F (increment == 0) above (f refl)
says_update F other increment above f = tt

says_updates : (F : Type 0) (b : Bool) (state : State) (increment : ℕ) (one other : Bool)
    → (state ≡ Active → F)
    → Says F (Unit {0}) (Unit {0}) (if b then connection_update_verdict increment one
    else update_verdict state increment other)
unfolding connection_update_verdict
says_updates F true state increment one other f = says_connection F (increment == 0) one
says_updates F false state increment one other f = says_update F state increment other f

-- Each item is checked so, by the rules.
pub rules_say : (log : Log) (decoded : Option Decoded) (item : Item) → LogIsLow log
    → Says (IsFaulty log item) (IsUnreported log item) (IsSaid log item)
    (verdict_by_rules (log_view log) decoded item)
unfolding verdict_by_rules stream_of_item stream_of
rules_say log None (block stream end octets) low = tt
rules_say log (Some decoded) (block stream end octets) low =
    says_block _ _ _ _ (peer_opens (log_view log) stream) _ _ _ _ (λ idle opens.
    let used = used_here log.role stream end octets log.received log.sent opens in
    let closed = idle_after_goaway log.role stream log.received log.sent log.reported low
    (idle_unused _ _ _ idle) opens in
    (used, closed, λ stays. used))
    (λ is. let used = active_faults log (block stream end octets) stream
    (state_is_active _ _ _ is) in (used, used)) (λ is. closed_by_us_is _ _ _ is)
rules_say log decoded (alone (Data stream end octets pad)) low =
    says_data _ _ (Unit {0}) (state log stream) _ _ _
    (λ is. active_faults log (alone (Data stream end octets pad)) stream (state_is_active _ _ _ is))
    (λ is. closed_by_us_is _ _ _ is) (λ is. tt)
rules_say log decoded (alone (Reset stream code)) low =
    says_reset (IsFaulty log (alone (Reset stream code))) (active log stream ≡ false) (Unit {0})
    (state log stream) (λ is. tt) (λ is. closed_inactive _ _ _ is) (λ is. over_inactive _ _ _ is)
rules_say log decoded (alone (Settings false pairs)) low = says_settings _ _ _
rules_say log decoded (alone (Settings true pairs)) low = says_reply _ _ _ _ (λ is. is) refl
rules_say log decoded (alone (Ping true octets)) low = says_reply _ _ _ _ (λ is. is) refl
rules_say log decoded (alone (WindowUpdate stream increment)) low =
    says_updates _ (stream == 0) _ increment _ _
    (λ is. active_faults log (alone (WindowUpdate stream increment)) stream
    (state_is_active _ _ _ is))
rules_say log decoded (alone frame) low = tt

-- A block that doesn't decode is a fault of the connection.
pub rules_see : (log : Log) (decoded : Option Decoded) (item : Item)
    → Says (IsSeen decoded item) (IsSeen decoded item) (IsSeen decoded item)
    (verdict_by_rules (log_view log) decoded item)
unfolding verdict_by_rules
rules_see log None (block stream end octets) = tt
rules_see log (Some decoded) (block stream end octets) = says_any (Unit {0}) _ tt
rules_see log None (alone frame) = says_any (Unit {0}) _ tt
rules_see log (Some decoded) (alone frame) = says_any (Unit {0}) _ tt

-- what is read of an item, by its verdict
abbrev pub reading_of : Log → Option Decoded → Item → Verdict → ItemRead
reading_of log decoded item verdict = record {
  item = item;
  sent = log.sent;
  reported = log.reported;
  decoded = decoded;
  events = events_of (log_view log) decoded verdict item;
}

-- A used number isn't nothing.
pub used_some : (role : Role) (i : ℕ) (received sent : List Item)
    → is_used role i received sent ≡ true → i ≢ 0
unfolding is_used
used_some role i received sent used = odd_some i (and_parts _ _ used).0

-- What is reported is what the item says.
pub events_said : (log : Log) (decoded : Option Decoded) (item : Item) (verdict : Verdict)
    → ((code : Code) → verdict ≡ ConnectionFault code → ⊥)
    → IsDecodedIn log decoded (completes item) → IsSeen decoded item
    → HasCode (fault_codes item) verdict → IsTypedGoAway item
    → Says (IsFaulty log item) (IsUnreported log item) (IsSaid log item) verdict
    → AreEventsOf log.role log.received (reading_of log decoded item verdict) (events_of
    (log_view log) decoded verdict item)
unfolding events_of
events_said log decoded item (ConnectionFault code) none sees seen coded typed says =
    absurd (none code refl)
events_said log decoded item (StreamFault code) none sees seen coded typed says =
    its_fault item decoded code (used_some _ _ _ log.sent says) coded
events_said log decoded item NoEvent none sees seen coded typed says = says
events_said log None (block stream end octets) Reported none sees seen coded typed says =
    absurd seen
events_said log (Some decoded) (block stream end octets) Reported none sees seen coded typed says =
    its_fields stream end octets decoded
events_said log decoded (alone (Data stream end octets pad)) Reported none sees
    seen coded typed says = rw sees (its_octets stream end octets pad)
events_said log decoded (alone (Reset stream code)) Reported none sees seen coded typed says =
    rw sees (its_reset stream code)
events_said log decoded (alone (Settings ack pairs)) Reported none sees seen coded typed says =
    rw (sees, says) (its_acknowledgment pairs)
events_said log decoded (alone (Ping ack octets)) Reported none sees seen coded typed says =
    rw (sees, says) (its_pong octets)
events_said log decoded (alone (GoAway last code debug)) Reported none sees seen coded typed says =
    rw (sees, least_reported log last code debug typed) (its_goaway last code debug)
events_said log decoded (alone frame) Reported none sees seen coded typed says = tt

-- Numbers from which a block opens are below those from which none does.
opens_less : (a b : ℕ) (items : List Item) → list_any (opens_from a) items ≡ true
    → list_any (opens_from b) items ≡ false → a < b
unfolding opens_from
opens_less a b [] some none = absurd (both_ways false refl some)
opens_less a b (alone frame ∷ items) some none = opens_less a b items some none
opens_less a b (block stream end octets ∷ items) some none =
    let parts = or_parts (stream % 2 == 1 && nat_le b stream) _ none in
    elim (or_cases (stream % 2 == 1 && nat_le a stream) (list_any (opens_from a) items) some) [
      | inl here ↦
          let both = and_parts (stream % 2 == 1) (nat_le a stream) here in
          omega (
            arith,
            leb-true a stream both.1,
            leb-false b stream (second_false (stream % 2 == 1) (nat_le b stream) parts.0 both.0),
          )
      | inr after ↦ opens_less a b items after parts.1
    ]

-- what is used at a server is below what isn't
used_less : (a b : ℕ) (received sent : List Item) → is_used Server a received sent ≡ true
    → list_any (opens_from b) received ≡ false → a < b
unfolding is_used
used_less a b received sent used none = opens_less a b received (and_parts _ _ used).1 none

-- the number that a reset's event names, or nothing
pub named_by : (b : Bool) (n i : ℕ) → n < i → max (if b then n else 0) 0 < i
named_by true n i less = omega arith
named_by false n i less = omega arith

-- something is above nothing
pub some_above : (i : ℕ) → i ≢ 0 → 0 < i
some_above zero some = absurd (some refl)
some_above (suc i) some = omega arith

-- What is processed of an item is used after it.
pub processed_low : (log : Log) (decoded : Option Decoded) (item : Item) (verdict : Verdict)
    (i : ℕ) → log.role ≡ Server → i ≢ 0 → list_any (opens_from i) (item ∷ log.received) ≡ false
    → Says (IsFaulty log item) (IsUnreported log item) (IsSaid log item) verdict
    → greatest_processed (events_of (log_view log) decoded verdict item) < i
unfolding events_of greatest_processed processed_by
processed_low log decoded item (StreamFault code) i server some none says =
    named_by (code_number code == 11) _ _ (used_less _ _ _ _ (rw server at says) none)
processed_low log decoded (block stream end octets) Reported i server some none says =
    named_by true stream i (used_less _ _ _ log.sent (rw server at says) none)
processed_low log decoded (alone (Data stream end octets pad)) Reported i server some none says =
    some_above i some
processed_low log decoded item verdict i server some none says = some_above i some
