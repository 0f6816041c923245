-- What an end has written can be sent: what every log has for that, and what an end reads.
use Rattle.h2_laws_end.proofs.Names
use Names.{◌≡◌, ltb-false, payload_of, ClosedByUs, IsSendable, AreSendable, replies_to, total_after}
use Names.{greatest_window, granted_on_connection}
use Names.{◌≢◌, ◌+◌, ◌^◌, ◌≤◌, ◌<◌, ◌∷◌, inl, inr, Log}
use Names.{ℕ, Bool, false, arith, subst, alone, block, Event, State, Active, Closed, Values, total}
use Names.{◌==◌, AllByRecursion, stream_of_item, ConnectionFault, verdict_by_rules, comes_as_before}
use Names.{nat_lt, code_number, StreamFault, most_between, processed_by, data_verdict, second_false}
use Names.{true, List, ◌++◌, Some, None, refl, Code, Data, Ping, Item, Role, Idle, View, read, used}
use Names.{[], cases_eq, Settings, is_server, IsFitItem, comes_fit, opened_by, events_of, with_sent}
use Names.{length, Option, lt-ltb, GoAway, log_view, NoEvent, Reported, Decoded, Replies, data_of}
use Names.{WindowUpdate, increment_on, with_failure, AllowedHistory, last_processed, opening_pairs}
use Names.{max_payload_sent, max_payload_sent_by, Verdict, greatest_processed, with_credit_returned}
use Rattle.std.proofs.Common.{map as each}
use Rattle.h2_spec_log.specs.Windows.{granted_on_connection, passes}
use Rattle.h2_spec_log.specs.Allowed.{starts, reads, writes}
use Rattle.h2_laws_end.proofs.ReadingCalls.{log_read}
use Rattle.h2_laws_log.proofs.LogViewLemmas.{data_by_sums}
use Rattle.h2_laws_end.proofs.ReadVerdicts.{Says, says_of, says_any, says_one}
use Rattle.h2_laws_end.proofs.ReadingRules.{IsUnreported, LogIsLow, IsFaulty, IsSaid, rules_say}
use Rattle.h2_laws_end.proofs.ReadingRules.{used_some, some_above, named_by}
use Rattle.h2_laws_end.proofs.Readings.{processed_append}
use Rattle.h2_laws_end.proofs.SendableItems.{IsPayload, reset_sendable, update_sendable}
use Rattle.h2_laws_end.proofs.SendableItems.{goaway_sendable, ping_sendable, ack_sendable, code_low}
use Rattle.h2_laws_end.proofs.SendableItems.{are_sendable, both_sendable}
use Rattle.h2_laws_log.proofs.FitItems.{stream_low}
use Rattle.h2_laws_log.proofs.StreamNumbers.{number_or_none as last_by}

-- What was written can be sent, each item with its own greatest payload; what was read and reported
-- is fit; and the peer has sent no more than the connection's window.
pub record AreFit (payloads : List ℕ) (received sent : List Item) (reported : List Event)
    : Type 0 where
  pub sent_all : AreSendable payloads sent
  pub received_all : AllByRecursion IsFitItem received
  pub processed : greatest_processed reported < 2 ^ 31
  pub credit : total data_of received ≤ 65535 + total (increment_on 0) sent

-- the same of a log of which these events are still to be reported, and of a log
abbrev pub PendingFit : List Event → Log → Type 0
PendingFit events log = AreFit log.payloads log.received log.sent (events ++ log.reported)

abbrev pub LogIsFit : Log → Type 0
LogIsFit log = PendingFit [] log

-- what was written was allowed
abbrev pub LogIsAllowed : Role → Log → Type 0
LogIsAllowed role log = AllowedHistory role log.received log.sent

-- More that can be sent with one greatest payload.
wrote_fit : (most : ℕ) (payloads : List ℕ) (received items sent : List Item)
    (reported : List Event) → AllByRecursion (IsSendable most) items
    → AreFit payloads received sent reported
    → AreFit (each (λ one. most) items ++ payloads) received (items ++ sent) reported
wrote_fit most payloads received items sent reported all are = record {
  sent_all = both_sendable (each (λ one. most) items) payloads items sent
      (are_sendable most items all) are.sent_all;
  received_all = are.received_all;
  processed = are.processed;
  credit = omega (arith, are.credit, total_after (increment_on 0) items sent);
}

pub wrote_keeps : (events : List Event) (log : Log) (items : List Item)
    → AllByRecursion (IsSendable (max_payload_sent log)) items → PendingFit events log
    → PendingFit events (with_sent log items)
unfolding with_sent
wrote_keeps events log [] all are = are
wrote_keeps events log (item ∷ items) all are =
    wrote_fit (max_payload_sent log) log.payloads log.received (item ∷ items) log.sent
    (events ++ log.reported) all are

-- A WINDOW_UPDATE of the connection that was allowed is of no more than the greatest window.
update_allowed : (role : Role) (received all : List Item) (n : ℕ) (sent : List Item)
    → AllowedHistory role received all → all ≡ alone (WindowUpdate 0 n) ∷ sent
    → total data_of received ≤ 65535 + total (increment_on 0) sent → n ≤ greatest_window
unfolding total granted_on_connection
update_allowed role _ _ n sent (starts values ok) line credit = absurd (cc)
update_allowed role _ all n sent (reads {received = received} item with_sent) line credit =
    update_allowed role received all n sent with_sent line (omega (arith, credit))
update_allowed role received _ n sent (writes {sent = before} item with_sent allowed) line credit =
    let same : item ≡ alone (WindowUpdate 0 n) = cc in
    let rest : before ≡ sent = cc in
    let may = (rw (same, rest) at allowed).1 in
    omega (arith, may.within refl, credit)

update_low : (role : Role) (n : ℕ) (received sent : List Item)
    → AllowedHistory role received (alone (WindowUpdate 0 n) ∷ sent)
    → total data_of received ≤ 65535 + total (increment_on 0) sent
    → IsSendable (max_payload_sent_by received) (alone (WindowUpdate 0 n))
update_low role n received sent with_sent credit =
    let small = update_allowed _ _ _ _ _ with_sent refl credit in
    update_sendable _ 0 _ (most_between received) (omega arith) (omega (arith, small))

-- What was written before an item other than SETTINGS was allowed.
pub allowed_before : (role : Role) (received all : List Item) (item : Item) (sent : List Item)
    → AllowedHistory role received all → all ≡ item ∷ sent
    → ((pairs : List (ℕ × ℕ)) → item ≢ alone (Settings false pairs))
    → AllowedHistory role received sent
allowed_before role _ _ item sent (starts values ok) line other =
    let same : item ≡ alone (Settings false (opening_pairs role values)) = cc in
    absurd (other _ same)
allowed_before role _ all item sent (reads {received = received} one with_sent) line other =
    reads one (allowed_before role received all item sent with_sent line other)
allowed_before role received _ item sent (writes {sent = before} one with_sent allowed) line other =
    let rest : before ≡ sent = cc in rw (← rest) with_sent

-- All that is unreturned is returned.
pub returned_fit : (role : Role) (events : List Event) (log : Log)
    → (LogIsAllowed role log → PendingFit events log)
    → LogIsAllowed role (with_credit_returned log) → PendingFit events (with_credit_returned log)
unfolding with_sent
returned_fit role events log are allowed =
    let now = are (allowed_before _ _ _ _ log.sent allowed refl (λ pairs wrong. cc)) in
    wrote_fit (max_payload_sent log) log.payloads log.received
    (alone (WindowUpdate 0 log.unreturned) ∷ []) log.sent (events ++ log.reported) (
      update_low role log.unreturned log.received log.sent allowed now.credit,
      tt,
    ) now

-- A failure.
pub failure_keeps : (code : Code) (last : ℕ) (log : Log) → last < 2 ^ 31 → LogIsFit log
    → LogIsFit (with_failure code last log)
unfolding with_sent
failure_keeps code last log low are =
    wrote_fit (max_payload_sent log) log.payloads log.received
    (alone (GoAway last (code_number code) []) ∷ []) log.sent log.reported (
      goaway_sendable _ _ (code_number code) (most_between log.received) low (code_low code),
      tt,
    ) are

pub last_low : (log : Log) → LogIsFit log → last_processed log < 2 ^ 31
unfolding last_processed
last_low log are = last_by (is_server log.role) (greatest_processed log.reported) are.processed

pub opened_by_low : (view : View) (decoded : Option Decoded) (item : Item) → IsFitItem item
    → opened_by view decoded item < 2 ^ 31
unfolding opened_by
opened_by_low view None item fit = omega arith
opened_by_low view (Some decoded) (alone frame) fit = omega arith
opened_by_low view (Some decoded) (block stream end octets) fit = last_by _ stream fit

-- Where DATA passes the connection's window it is a fault of the connection.
passes_data : (state : State) (passes_connection ended above : Bool)
    → Says (passes_connection ≡ false) (passes_connection ≡ false) (passes_connection ≡ false)
    (data_verdict state passes_connection ended above)
unfolding data_verdict
passes_data Idle passes_connection ended above = tt
passes_data Closed passes_connection ended above = tt
passes_data ClosedByUs true ended above = tt
passes_data ClosedByUs false ended above = refl
passes_data Active true ended above = tt
passes_data Active false true above = refl
passes_data Active false false true = tt
passes_data Active false false false = refl

-- DATA doesn't pass it.
abbrev pub IsWithin : Log → Item → Type 0
IsWithin log (alone (Data stream end octets pad)) =
    passes (length (payload_of (Data stream end octets pad))) (granted_on_connection log.sent)
    (total data_of log.received) ≡ false
IsWithin log item = Unit {0}

-- So does the verdict by the rules say.
rules_pass : (log : Log) (decoded : Option Decoded) (item : Item)
    → Says (IsWithin log item) (IsWithin log item) (IsWithin log item) (verdict_by_rules
    (log_view log) decoded item)
rules_pass log decoded (block stream end octets) = says_any (Unit {0}) _ tt
rules_pass log decoded (alone (Data stream end octets pad)) =
    rw (data_by_sums log decoded stream end octets pad) (passes_data _ _ _ _)
rules_pass log decoded (alone frame) = says_any (Unit {0}) _ tt

-- What doesn't pass a window is within it.
within : (n given consumed : ℕ) → passes n given consumed ≡ false → consumed ≤ given
    → n + consumed ≤ given
within n given consumed none before = elim (cases_eq n 0) [
  | inl zero_octets ↦ omega (arith, zero_octets, before)
  | inr some ↦ omega (
    arith,
    ltb-false given (consumed + n) (second_false (nat_lt 0 n) (nat_lt given (consumed + n)) none
        (lt-ltb 0 n (some_above n some))),
  )
]

-- So the peer has sent no more than the connection's window.
credit_after : (log : Log) (item : Item) → IsWithin log item
    → total data_of log.received ≤ 65535 + total (increment_on 0) log.sent
    → total data_of (item ∷ log.received) ≤ 65535 + total (increment_on 0) log.sent
unfolding total data_of granted_on_connection
credit_after log (block stream end octets) is credit = omega (arith, credit)
credit_after log (alone (Data stream end octets pad)) is credit = within _ _ _ is credit
credit_after log (alone frame) is credit = omega (arith, credit)

-- What is reported of a fit item is fit.
processed_fit : (log : Log) (decoded : Option Decoded) (item : Item) (verdict : Verdict)
    → IsFitItem item → greatest_processed (events_of (log_view log) decoded verdict item) < 2 ^ 31
unfolding events_of greatest_processed processed_by
processed_fit log decoded item (StreamFault code) fit =
    named_by (code_number code == 11) (stream_of_item item) (2 ^ 31) (stream_low item fit)
processed_fit log decoded (block stream end octets) Reported fit = named_by true stream (2 ^ 31) fit
processed_fit log decoded (alone (Data stream end octets pad)) Reported fit = omega arith
processed_fit log decoded item verdict fit = omega arith

-- What is replied to a fit item can be sent.
replies_sendable : (most : ℕ) (log : Log) (verdict : Verdict) (item : Item) → IsPayload most
    → IsFitItem item → Says (IsFaulty log item) (IsUnreported log item) (IsSaid log item) verdict
    → AllByRecursion (IsSendable most) (replies_to verdict item)
unfolding replies_to
replies_sendable most log (ConnectionFault code) item may fit says = tt
replies_sendable most log (StreamFault code) item may fit says = (
  reset_sendable most (stream_of_item item) (code_number code) may (some_above _ (used_some log.role
      (stream_of_item item) (item ∷ log.received) log.sent says)) (stream_low item fit)
      (code_low code),
  tt,
)
replies_sendable most log Reported item may fit says = tt
replies_sendable most log NoEvent (block stream end octets) may fit says = tt
replies_sendable most log NoEvent (alone (Settings false pairs)) may fit says =
    (ack_sendable most may, tt)
replies_sendable most log NoEvent (alone (Ping false octets)) may fit says =
    (ping_sendable most true octets may fit, tt)
replies_sendable most log NoEvent (alone frame) may fit says = tt

-- A fit item that is read.
item_read : (log : Log) (decoded : Option Decoded) (item : Item) (verdict : Verdict)
    → IsFitItem item → IsWithin log item → LogIsFit log
    → PendingFit (events_of (log_view log) decoded verdict item) (read log decoded item)
item_read log decoded item verdict fit is_within are = record {
  sent_all = are.sent_all;
  received_all = (fit, are.received_all);
  processed = processed_append (events_of (log_view log) decoded verdict item) log.reported
      (2 ^ 31) (processed_fit log decoded item verdict fit) are.processed;
  credit = credit_after log item is_within are.credit;
}

-- An item that comes and is no fault of the connection.
pub replied_fit : (role : Role) (values : Values) (log : Log) (decoded : Option Decoded)
    (item : Item) (verdict : Verdict) → Replies role values log decoded item verdict → LogIsFit log
    → PendingFit (events_of (log_view log) decoded verdict item)
    (with_sent (read log decoded item) (replies_to verdict item))
unfolding used
replied_fit role values log decoded item verdict replies are =
    let comes = replies.comes in
    let fit = comes_fit role values log decoded item comes in
    let low : LogIsLow log =
    comes_as_before comes LogIsLow ((log_read role values comes.before comes.is).low comes.takes.up)
    in
    let within = subst (Says (IsWithin log item) (IsWithin log item) (IsWithin log item)) replies.is
    (says_of _ _ _ log decoded item (rules_pass log decoded item)) in
    let says = subst (Says (IsFaulty log item) (IsUnreported log item) (IsSaid log item)) replies.is
    (says_of _ _ _ log decoded item (rules_say log decoded item low)) in
    wrote_keeps _ (read log decoded item) (replies_to verdict item)
    (replies_sendable _ log verdict item (most_between (item ∷ log.received)) fit says)
    (item_read log decoded item verdict fit (says_one verdict replies.up within) are)
