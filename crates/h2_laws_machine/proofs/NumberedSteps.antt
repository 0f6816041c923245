-- Every log that hasn't failed has one own GOAWAY at most, and so on: calls and frames keep it.
use Rattle.h2_laws_machine.proofs.Names
use Names.{◌≡◌, list_any, or_parts, eqb-true, is_goaway, is_server, events_of, answer_of, with_sent}
use Names.{◌≢◌, ◌==◌, Bool, true, List, None, refl, Reset, alone, block, total, Event, state, IsLog}
use Names.{ℕ, ◌+◌, ◌-◌, ◌≤◌, ◌∷◌, ◌∙◌, Code, Data, Ping, Item, Role, Act, Log, read}
use Names.{nat_lt, Option, ap, subst, arith, GoAway, Client, Server, Values, Active, opened, called}
use Names.{false, is_goaway_below, greatest_block, stream_of_item, reported_total, stream_is_active}
use Names.{if◌then◌else◌, last_processed, StreamFault, with_reported, events_unnamed, IsUpInvariant}
use Names.{[], Settings, Release, log_view, released, owed_on, Verdict, Reported, Decoded, items_of}
use Names.{both_ways, ltb-false, stream_of, flow_on, chosen_low, none_holds, items_none, up_by_logs}
use Names.{code_number, greatest_processed, reports_unprocessed, next_unprocessed, verdict_by_rules}
use Names.{WindowUpdate, processed_by, SendGoAway, unreleased, refusal_of, conditions, replies_none}
use Rattle.h2_laws_log.proofs.InvariantCalls.{released_none}
use Rattle.h2_laws_log.proofs.LogViewLemmas.{owed_there}
use Rattle.h2_laws_log.proofs.LogInduction.{MayReport, of_item, of_unprocessed}
use Rattle.h2_laws_machine.proofs.LogCore.{core}
use Rattle.h2_laws_machine.proofs.NumberedLogs.{IsNumbered, goaway_sent, EventsFit, Numbered}
use Rattle.h2_laws_machine.proofs.NumberedLogs.{sent_numbered, reported_numbered, read_numbered}
use Rattle.h2_laws_machine.proofs.QuietNumbers.{unused_before}
use Rattle.h2_laws_machine.proofs.RecvItems.{active_in, active_low}
use Rattle.h2_laws_machine.proofs.RecvVerdictCases.{data_is_fault, reset_is_fault, update_is_fault}
use Rattle.h2_laws_machine.proofs.UpInvariant.{openings_server}
use Rattle.h2_laws_machine.proofs.UpInvariantLogs.{rules_is}

-- The number of an active stream is no greater than the greatest that was read, at a server.
active_read_low : (log : Log) (i : ℕ) → is_server log.role ≡ true → state log i ≡ Active
    → i ≤ greatest_block log.received
active_read_low log i server is =
    let low = active_low (core log) i (active_in log i is) in
    let same = ap greatest_block (openings_server log.role log.received log.sent server) in
    omega (arith, low, same)

-- The number of an item that is a fault of its stream is no greater than the greatest with it.
fault_low : (log : Log) (decoded : Option Decoded) (item : Item) (code : Code)
    → verdict_by_rules (log_view log) decoded item ≡ StreamFault code
    → is_server log.role ≡ true → stream_of_item item ≤ greatest_block (item ∷ log.received)
unfolding verdict_by_rules stream_of_item stream_of greatest_block
fault_low log decoded (block i end octets) code is server = omega arith
fault_low log decoded (alone (Data i end octets pad)) code is server =
    active_read_low log i server (data_is_fault (state log i) _ _ _ code is).0
fault_low log decoded (alone (Reset i other)) code is server = absurd (reset_is_fault _ _ is)
fault_low log decoded (alone (Settings ack pairs)) code is server = omega arith
fault_low log decoded (alone (Ping ack octets)) code is server = omega arith
fault_low log decoded (alone (GoAway last other debug)) code is server = omega arith
fault_low log decoded (alone (WindowUpdate i increment)) code is server =
    active_read_low log i server (update_is_fault (i == 0) (state log i) increment _ _ code is)
fault_low log decoded item code is server = cc

-- The events of an item show no greater number processed than the greatest with it.
events_low : (log : Log) (decoded : Option Decoded) (v : Verdict) (item : Item)
    → verdict_by_rules (log_view log) decoded item ≡ v → is_server log.role ≡ true
    → greatest_processed (events_of (log_view log) decoded v item)
    ≤ greatest_block (item ∷ log.received)
unfolding events_of greatest_processed processed_by greatest_block
events_low log decoded (StreamFault code) item is server =
    let low = fault_low log decoded item code is server in
    let test = chosen_low (code_number code == 11) (stream_of_item item) in
    omega (arith, low, test)
events_low log decoded Reported (alone (Data i end octets pad)) is server = omega arith
events_low log decoded v item is server = omega arith

-- a server reports none as unprocessed
server_none : (role : Role) (n : ℕ) → is_server role ≡ true → (if is_server role then 0 else n) ≢ 0
    → ⊥
server_none Client n server some = both_ways false refl server
server_none Server n server some = some refl

-- What may be reported next shows no greater number processed than the greatest that was read.
events_fit : (role : Role) (values : Values) (log : Log) (events : List Event)
    → MayReport role values log events → EventsFit log.role log.received events
unfolding next_unprocessed
events_fit role values log _ (of_item before decoded item verdict replies grows) =
    let rules = rules_is before decoded item verdict replies.is replies.up in
    rw (grows.received, grows.role) (record {
      processed = λ server. events_low before decoded verdict item rules server;
      unnamed = λ server i. events_unnamed before decoded verdict item i;
    })
events_fit role values log _ (of_unprocessed before is up some grows) =
    rw grows.role (record {
      processed = λ server. absurd (server_none before.role _ server some);
      unnamed = λ server i. absurd (server_none before.role _ server some);
    })

-- no more is released than is owed
released_within : (log : Log) (id count : ℕ) → refusal_of (log_view log) (Release id count) ≡ None
    → count ≤ unreleased log id
unfolding conditions
released_within log id count none =
    let holds = none_holds _ none in
    let stream = (log_view log).stream id in
    let owing = or_parts (count == 0) (nat_lt (owed_on stream) count) holds.1.1.1.0 in
    omega (
      arith,
      ltb-false (owed_on stream) count owing.1,
      owed_there log id (stream_is_active log id holds.1.0),
    )

-- what was released with a release more, by the test whether it is of this stream
released_by : (same : Bool) (count before reported : ℕ) → (same ≡ true → count ≤ reported - before)
    → before ≤ reported → (if same then count else 0) + before ≤ reported
released_by true count before reported within low =
    let most = within refl in omega (arith, most, low)
released_by false count before reported within low = omega (arith, low)

-- No more is released by a call than was reported.
released_call : (log : Log) (act : Act) (i : ℕ) → refusal_of (log_view log) act ≡ None
    → released i log.calls ≤ reported_total (flow_on i) log.reported
    → released i ((act, answer_of (log_view log) act) ∷ log.calls)
    ≤ reported_total (flow_on i) log.reported
unfolding released unreleased
released_call log (Release id count) i none low =
    released_by (id == i) _ _ (reported_total (flow_on i) log.reported) (λ same.
    let here : id ≡ i = eqb-true id i same in
    subst (λ (j : ℕ). count ≤ reported_total (flow_on j) log.reported - released j log.calls) here
    (within id count none)) low
  where
    within : (id count : ℕ) → refusal_of (log_view log) (Release id count) ≡ None
        → count ≤ reported_total (flow_on id) log.reported - released id log.calls
    within id count none = released_within log id count none
released_call log act i none low = low

-- A call that is accepted keeps it, but for what it writes.
called_numbered : (log : Log) (act : Act) → refusal_of (log_view log) act ≡ None → IsNumbered log
    → IsNumbered (called log act (answer_of (log_view log) act))
called_numbered log act none f = assumption (λ (i : ℕ). released_call _ _ i none (f.released i), f)

-- The last stream of an own GOAWAY is no greater than the greatest number that was read.
last_is_low : (role : Role) (n m : ℕ) → (is_server role ≡ true → n ≤ m)
    → (if is_server role then n else 0) ≤ m
last_is_low Client n m low = omega arith
last_is_low Server n m low = low refl

-- An own GOAWAY is sent where none was.
goaway_numbered : (base : Log) (last : ℕ) → list_any is_goaway base.sent ≡ false
    → last ≤ greatest_block base.received → IsNumbered base
    → IsNumbered (with_sent base (alone (GoAway last 0 []) ∷ []))
unfolding with_sent
goaway_numbered base last none low g = record {
  goaways = goaway_sent (greatest_block base.received) last base.sent none low g.goaways;
  processed = g.processed;
  odd = g.odd;
  unnamed = g.unnamed;
  unread = λ i some unused. g.unread i some
      (unused_before base.role i [] (alone (GoAway last 0 []) ∷ []) base.received base.sent
      unused);
  released = g.released;
}

-- The items of a call that is accepted keep it.
items_numbered : (log base : Log) (act : Act) → refusal_of (log_view log) act ≡ None
    → base.sent ≡ log.sent → base.received ≡ log.received → IsNumbered log → IsNumbered base
    → IsNumbered (with_sent base (items_of (log_view log) act (answer_of (log_view log) act)))
unfolding items_of is_goaway last_processed conditions
items_numbered log base SendGoAway none sent received f g =
    let holds = none_holds _ none in
    goaway_numbered base (last_processed log) (ap (list_any is_goaway) sent ∙ holds.1.0)
    (rw received (last_is_low _ _ (greatest_block log.received) f.processed)) g
items_numbered log base act none sent received f g =
    sent_numbered base _ (items_none (log_view log) act (λ same. cc)) g

-- A new end's log has it.
opened_numbered : (role : Role) (values : Values) → IsNumbered (opened role values)
unfolding opened with_sent is_goaway is_goaway_below total reported_total released
    greatest_processed greatest_block reports_unprocessed
opened_numbered role values = record {
  goaways = record { above = λ i. refl; last = λ some. absurd (both_ways false refl some) };
  processed = λ server. omega arith;
  odd = λ server i here. absurd (both_ways false refl here);
  unnamed = λ server i. refl;
  unread = λ i some unused. assumption;
  released = λ i. omega arith;
}

-- Each change of a log keeps it, as long as the connection is up.
numbered_kept : (role : Role) (values : Values) → IsUpInvariant role values Numbered
unfolding is_goaway with_reported with_sent
numbered_kept role values =
    record {
      opening = λ in_range. opened_numbered role values;
      replied = λ log decoded item verdict replies f. sent_numbered (read log decoded item) _
          (replies_none verdict item) (read_numbered log decoded item verdict
          (rules_is log decoded item verdict replies.is replies.up) replies.up f);
      reported = λ log event events may. reported_numbered log (event ∷ events)
          (events_fit _ _ log (event ∷ events) may);
      returned = λ log returns. sent_numbered (record log { unreturned = 0 })
          (alone (WindowUpdate 0 log.unreturned) ∷ []) refl;
      sent = λ log act accepted f. items_numbered log (called log act (answer_of (log_view log)
          act))
          act accepted.none refl refl f (called_numbered log act accepted.none f);
      called = λ log act answer is_log none f. record {
        goaways = f.goaways;
        processed = f.processed;
        odd = f.odd;
        unnamed = f.unnamed;
        unread = f.unread;
        released = λ i. rw (released_none i act answer log.calls none) (f.released i);
      };
    }

-- Every log that hasn't failed has it.
pub numbered_of : (role : Role) (values : Values) (log : Log) → IsLog role values log
    → log.failed ≡ None → IsNumbered log
numbered_of role values = up_by_logs role values Numbered (numbered_kept role values)
