-- The rules over the view of a log, by what was read and written in all. Where a stream isn't
-- active the rules ask nothing of it.
use Rattle.std.proofs.Common.{ℤ, negsuc, ap₂}
use Rattle.std.specs.Prelude.{int_lt}
use Rattle.h2_spec_log.specs.View.{ended_out}
use Rattle.h2_spec_log.specs.ItemRules.{exceeds_stream}
use Rattle.h2_spec_log.specs.CallRules.{is_no_stream}
use Rattle.h2_laws_log.proofs.Names
use Names.{ap, is_some, list_any, ints, both_ways, nat_tests, list_size, Data, WindowUpdate, Reset}
use Names.{payload_of, alone, block, Item, data_on, data_of, ends, total, State, Idle, Active}
use Names.{ClosedByUs, Closed, when, state_by, greatest_number, is_above, max_list, max_data}
use Names.{StreamView, ended_in, owed_on, Log, acked, state, active, send_window, unreleased}
use Names.{goaway_written, stream_of_log, log_view, data_verdict, update_verdict}
use Names.{connection_update_verdict, block_verdict, Verdict, Reported, Decoded, verdict_by_rules}
use Names.{data_count, least_last, events_of, Role, Client, Server, is_server, reports_unprocessed}
use Names.{◌≡◌, ℕ, ◌+◌, ◌-◌, min, not, Bool, true, false, if◌then◌else◌, ◌&&◌, ◌==◌, nat_lt, pos}
use Names.{◌+ℤ◌, ◌-ℤ◌, List, Option, Some, length, refl, ◌∙◌, arith, ◌≤◌, given_on}
use Names.{given_on_connection, granted_on, granted_on_connection, connection_send_window, passes}
use Names.{is_above_greatest, peer_opens, is_at_capacity, at_least_none, rules}
use Rattle.h2_laws_log.proofs.ReaderStates.{state_is_active}

-- Whether there is one is the test.
pub when_some : {A : Type 0} (b : Bool) (a : A) → is_some (when b a) ≡ b
when_some true a = refl
when_some false a = refl

-- The stream of an active number is what the log says of it.
pub stream_there : (log : Log) (i : ℕ) → active log i ≡ true → (log_view log).stream i
    ≡ Some (stream_of_log log i)
stream_there log i active = ap (λ (b : Bool). when b (stream_of_log log i)) active

-- there is one only where the test holds
pub there_by : (b : Bool) (stream : StreamView) → not (is_some (when b stream)) ≡ false → b ≡ true
there_by true stream is = refl
there_by false stream is = absurd (both_ways true is refl)

-- A number has a stream only where it is active.
pub stream_is_active : (log : Log) (i : ℕ) → is_no_stream (log_view log) i ≡ false → active log i
    ≡ true
stream_is_active log i is = there_by (active log i) (stream_of_log log i) is

-- Where this end hasn't ended the stream by the view, it hasn't by the log.
pub open_out : (log : Log) (i : ℕ) → active log i ≡ true → ended_out ((log_view log).stream i)
    ≡ false → list_any (ends i) log.sent ≡ false
open_out log i active is = search rules

-- What is owed on an active stream is what wasn't released.
pub owed_there : (log : Log) (i : ℕ) → active log i ≡ true → owed_on ((log_view log).stream i)
    ≡ unreleased log i
owed_there log i active = ap owed_on (stream_there log i active)

-- So many octets exceed a window, by signed numbers.
int_passes : (given consumed n : ℕ) → int_lt (pos given -ℤ pos consumed) (pos n)
    ≡ nat_lt given (consumed + n)
int_passes given consumed n = grind (arith, nat_tests, ints)

-- A window is above a bound, by signed numbers.
pub int_above : (top given consumed n : ℕ) → int_lt (pos top) ((pos given -ℤ pos consumed) +ℤ pos n)
    ≡ nat_lt (top + consumed) (given + n)
int_above top given consumed n = grind (arith, nat_tests, ints)

-- what a window lets through is a difference, or nothing
pub natural_by : (z : ℤ) (given consumed : ℕ) → z ≡ pos given -ℤ pos consumed → at_least_none z
    ≡ given - consumed
natural_by (pos n) given consumed is = omega (arith, ints, is)
natural_by (negsuc n) given consumed is = omega (arith, ints, is)

-- the verdict on DATA is the same where the flags are that it asks for
data_same : (s : State) (a b p q x y : Bool) → a ≡ b → (s ≡ Active → p ≡ q) → (s ≡ Active → x
    ≡ y) → data_verdict s a p x ≡ data_verdict s b q y
unfolding data_verdict
data_same Idle a b p q x y one two three = refl
data_same Closed a b p q x y one two three = refl
data_same ClosedByUs a b p q x y one two three = rw one refl
data_same Active a b p q x y one two three = rw (one, two refl, three refl) refl

-- so is that on WINDOW_UPDATE of a stream
update_same : (s : State) (n : ℕ) (x y : Bool) → (s ≡ Active → x ≡ y) → update_verdict s n x
    ≡ update_verdict s n y
unfolding update_verdict
update_same Active n x y same = rw (same refl) refl
update_same other n x y same = refl

-- and that on a block
block_same : (s : State) (opens left full ended was large : Bool) → (s ≡ Active → ended ≡ was)
    → block_verdict s opens left full ended large ≡ block_verdict s opens left full was large
unfolding block_verdict
block_same Active opens left full ended was large same = rw (same refl) refl
block_same other opens left full ended was large same = refl

-- The verdict on DATA, by sums.
pub data_by_sums : (log : Log) (decoded : Option Decoded) (i : ℕ) (end : Bool) (octets : List ℕ)
    (pad : Option ℕ)
    → verdict_by_rules (log_view log) decoded (alone (Data i end octets pad))
    ≡ data_verdict (state log i)
    (passes (length (payload_of (Data i end octets pad))) (granted_on_connection log.sent)
    (total data_of log.received)) (list_any (ends i) log.received)
    (passes (length (payload_of (Data i end octets pad))) (granted_on i (acked log) log.sent)
    (total (data_on i) log.received))
unfolding verdict_by_rules
data_by_sums log decoded i end octets pad =
    let n = length (payload_of (Data i end octets pad)) in
    let some = λ (b : Bool). nat_lt 0 n && b in
    data_same (state log i) _ _ _ _ _ _ (ap some (int_passes (granted_on_connection log.sent)
    (total data_of log.received) n))
    (λ is. ap ended_in (stream_there log i (state_is_active _ _ _ is)))
    (λ is. ap (exceeds_stream n) (stream_there log i (state_is_active _ _ _ is))
    ∙ ap some (int_passes (granted_on i (acked log) log.sent) (total (data_on i) log.received) n))

-- The verdict on WINDOW_UPDATE, by sums.
pub update_by_sums : (log : Log) (decoded : Option Decoded) (i increment : ℕ)
    → verdict_by_rules (log_view log) decoded (alone (WindowUpdate i increment))
    ≡ (if i == 0 then connection_update_verdict increment (is_above_greatest
    (given_on_connection log.received + increment) (total data_of log.sent))
    else update_verdict (state log i) increment (is_above_greatest
    (given_on i log.received + increment) (total (data_on i) log.sent)))
unfolding verdict_by_rules
update_by_sums log decoded i increment =
    search (rules, update_same, stream_there, state_is_active, int_above)

-- The verdict on a block, by what was read.
pub block_by_items : (log : Log) (decoded : Decoded) (i : ℕ) (end : Bool) (octets : List ℕ)
    → verdict_by_rules (log_view log) (Some decoded) (block i end octets)
    ≡ block_verdict (state log i) (peer_opens (log_view log) i) (goaway_written log)
    (is_at_capacity (log_view log))
    (list_any (ends i) log.received) (nat_lt max_list (list_size decoded.fields))
unfolding verdict_by_rules
block_by_items log decoded i end octets =
    block_same (state log i) _ _ _ _ _ _ (λ is. ap ended_in (stream_there log i
    (state_is_active _ _ _ is)))

-- How many octets of a body go on an active stream, by sums.
pub count_by_sums : (log : Log) (i count : ℕ) → active log i ≡ true
    → data_count (log_view log) ((log_view log).stream i) count
    ≡ min count (min (min (given_on i log.received - total (data_on i) log.sent)
    (given_on_connection log.received - total data_of log.sent)) max_data)
count_by_sums log i count active =
    let on : at_least_none (send_window log i)
    ≡ given_on i log.received - total (data_on i) log.sent =
    natural_by (send_window log i) (given_on i log.received) (total (data_on i) log.sent) refl in
    let all : at_least_none (connection_send_window log.received log.sent)
    ≡ given_on_connection log.received - total data_of log.sent =
    natural_by (connection_send_window log.received log.sent) (given_on_connection log.received)
    (total data_of log.sent) refl in
    ap (λ (stream : Option StreamView). data_count (log_view log) stream count)
    (stream_there log i active)
    ∙ ap₂ (λ (one other : ℕ). min count (min (min one other) max_data)) on all

-- the least last stream with one more, by whether there was one
pub least_by : (b : Bool) (last n : ℕ) → last ≤ greatest_number → (b ≡ false → n ≡ greatest_number)
    → least_last last (when b n) ≡ min last n
least_by true last n low none = refl
least_by false last n low none = omega (arith, low, none refl)

-- A stream in the state ClosedByUs is.
pub closed_by_us_is : (used active closed_by_us : Bool)
    → state_by used active closed_by_us ≡ ClosedByUs
    → closed_by_us ≡ true
closed_by_us_is true false true is = refl
closed_by_us_is used active closed_by_us is = cc

-- At a server an active stream is no greater than the greatest that was processed.
pub last_is : (role : Role) (n : ℕ) → role ≡ Server → (if is_server role then n else 0) ≡ n
last_is Server n server = refl
last_is Client n server = cc

-- A number in the state ClosedByUs was used, and in the state Idle it wasn't.
pub closed_used : (used active closed : Bool) → state_by used active closed ≡ ClosedByUs
    → used ≡ true
closed_used true active closed is = refl
closed_used false active closed is = cc

-- The events of an item report no stream as unprocessed.
pub events_unnamed : (log : Log) (decoded : Option Decoded) (v : Verdict) (item : Item) (i : ℕ)
    → list_any (reports_unprocessed i) (events_of (log_view log) decoded v item) ≡ false
unfolding events_of reports_unprocessed
events_unnamed log decoded Reported (alone (Reset stream code)) i = refl
events_unnamed log decoded v item i = refl

-- a client is above no own GOAWAY
pub client_above : (role : Role) (i : ℕ) (sent : List Item) → role ≡ Client
    → is_above role i sent ≡ false
unfolding is_above
client_above Client i sent is = refl
client_above Server i sent is = cc
