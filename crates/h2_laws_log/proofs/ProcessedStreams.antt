-- In a log whose connection is up no stream that was processed is above the last one of a GOAWAY
-- that was sent, and what the peer has reset is used.
use Rattle.h2_laws_log.proofs.Names
use Names.{list_any, both_ways, eqb-true, or_cases, true_from_ne_false, Reset, Item, alone, block}
use Names.{Role, Client, Server, Values, Act, SendGoAway, resets, stream_of_item, is_goaway}
use Names.{is_server, Event, greatest_processed, processed_by, State, Idle, greatest_number}
use Names.{is_above, is_used, Log, last_processed, least_goaway, state, log_view, Verdict}
use Names.{ConnectionFault, StreamFault, NoEvent, Reported, reset_verdict, Decoded, replies_to}
use Names.{verdict_by_rules, verdict_of, events_of, answer_of, items_of, read, with_sent, opened}
use Names.{called, IsLog, ◌≡◌, ◌≢◌, ℕ, ◌≤◌, true, false, if◌then◌else◌, List, [], ◌∷◌, ◌++◌, Option}
use Names.{None, refl, sym, ◌∙◌, inl, inr, arith, ProtocolError}
use Rattle.h2_laws_log.proofs.FitItems.{comes_fit, stream_low}
use Rattle.h2_laws_log.proofs.InvariantReads.{Fits, IsOpenFor, Resets, Reports, verdict_fits}
use Rattle.h2_laws_log.proofs.LogGrowth.{grows_wrote, fails_down}
use Rattle.h2_laws_log.proofs.LogHistory.{history_of, processed_append}
use Rattle.h2_laws_log.proofs.LogInduction.{IsPendingInvariant, pending_by_logs}
use Rattle.h2_laws_log.proofs.LogInvariant.{NumbersFit}
use Rattle.h2_laws_log.proofs.LogViewLemmas.{last_is}
use Rattle.h2_laws_log.proofs.NoGoAways.{items_none, replies_none}
use Rattle.h2_laws_log.proofs.ReaderStates.{active_parts, state_idle, state_is_active}
use Rattle.h2_laws_log.proofs.ReplyInvariant.{chosen_low, used_more}
use Rattle.h2_laws_log.proofs.RulesByTests.{NoConnectionFault, within_limits}
use Rattle.h2_laws_log.proofs.StreamNumbers.{last_none, least_above, least_kept}
use Rattle.h2_laws_log.proofs.UpByLogs.{IsUpInvariant, up_by_logs}

-- RST_STREAM that is no fault of the connection comes on no idle stream.
reset_state : (s : State) (v : Verdict) → reset_verdict s ≡ v → NoConnectionFault v → s ≢ Idle
unfolding reset_verdict
reset_state s v is up idle = absurd (up ProtocolError (sym (rw idle at is)))

-- Its stream is used.
reset_used : (log : Log) (decoded : Option Decoded) (item : Item) (v : Verdict) (i : ℕ)
    → verdict_of (log_view log) decoded item ≡ v → NoConnectionFault v → resets i item ≡ true
    → is_used log.role i log.received log.sent ≡ true
unfolding verdict_of verdict_by_rules resets
reset_used log decoded (alone (Reset stream code)) v i is up here =
    rw (← eqb-true stream i here) (true_from_ne_false _ (λ unused.
    reset_state (state log stream) v (within_limits _ _ _ _ v is up).0 up
    (state_idle _ _ _ unused)))
reset_used log decoded item v i is up here = absurd (both_ways false refl here)

-- What the peer has reset is used.
abbrev ResetsAreUsed : Role → List Item → List Item → Type 0
ResetsAreUsed role received sent = (i : ℕ) → list_any (resets i) received ≡ true
    → is_used role i received sent ≡ true

-- It is so once an item more is read, and once more is sent.
resets_read : (log : Log) (decoded : Option Decoded) (item : Item) (v : Verdict)
    → verdict_of (log_view log) decoded item ≡ v → NoConnectionFault v
    → ResetsAreUsed log.role log.received log.sent
    → ResetsAreUsed log.role (item ∷ log.received) log.sent
resets_read log decoded item v is up before i some =
    used_more log.role i (item ∷ []) [] log.received log.sent (elim (or_cases _ _ some) [
      | inl here ↦ reset_used log decoded item v i is up here
      | inr was ↦ before i was
    ])

resets_wrote : (log : Log) (items : List Item) → ResetsAreUsed log.role log.received log.sent
    → ResetsAreUsed log.role log.received (with_sent log items).sent
unfolding with_sent
resets_wrote log [] before i some = before i some
resets_wrote log (item ∷ items) before i some =
    used_more log.role i [] (item ∷ items) log.received log.sent (before i some)

-- Each change of a log keeps it.
resets_kept : (role : Role) (values : Values) → IsUpInvariant role values
    (λ role received sent reported calls. ResetsAreUsed role received sent)
unfolding opened with_sent
resets_kept role values = record {
  opening = λ in_range i some. absurd (both_ways false refl some);
  replied = λ log decoded item verdict replies before.
      let g = grows_wrote (read log decoded item) (replies_to verdict item) in
      rw (g.role, g.received) (resets_wrote (read log decoded item) (replies_to verdict item)
      (resets_read log decoded item verdict replies.is replies.up before));
  reported = λ log event events may before. before;
  returned = λ log returns before i some.
      used_more log.role i [] (_ ∷ []) log.received log.sent (before i some);
  sent = λ log act accepted before.
      let next = called log act (answer_of (log_view log) act) in
      let g = grows_wrote next (items_of (log_view log) act (answer_of (log_view log) act)) in
      rw (g.role, g.received) (resets_wrote next _ before);
  called = λ log act answer is_log none before. before;
}

-- A stream that is open for an item is not above the last one of a GOAWAY, at a server.
open_low : (log : Log) (item : Item) → log.role ≡ Server → stream_of_item item ≤ greatest_number
    → IsOpenFor log item → stream_of_item item ≤ least_goaway log.sent
unfolding is_above stream_of_item
open_low log item server small (inl active) =
    let parts = active_parts log.role (stream_of_item item) log.received log.sent log.reported
    (state_is_active _ _ _ active) in
    least_above (stream_of_item item) log.sent small (rw server at parts.below)
open_low log (block stream end octets) server small (inr (idle, opens, stays)) =
    omega (arith, small, last_none log.sent stays)
open_low log (alone frame) server small (inr wrong) = absurd wrong

-- Nor are those that the events of an item show to be processed.
events_low : (log : Log) (decoded : Option Decoded) (v : Verdict) (item : Item)
    → log.role ≡ Server → stream_of_item item ≤ greatest_number
    → Fits (Resets log item) (Reports log item) v
    → greatest_processed (events_of (log_view log) decoded v item) ≤ least_goaway log.sent
unfolding events_of greatest_processed processed_by stream_of_item
events_low log decoded (ConnectionFault code) item server small fits = omega arith
events_low log decoded (StreamFault code) item server small fits =
    omega (arith, chosen_low, open_low log item server small fits.alive)
events_low log decoded NoEvent item server small fits = omega arith
events_low log decoded Reported (block stream end octets) server small fits =
    omega (arith, open_low log (block stream end octets) server small fits)
events_low log decoded Reported (alone (Reset stream code)) server small fits = omega arith
events_low log decoded Reported (alone frame) server small fits = omega arith

-- At a server that is up no stream that was processed, by the events that were reported and those
-- that are still to be, is above the last one of a GOAWAY.
abbrev IsLow : List Event → Log → Type 0
IsLow events log = log.failed ≡ None → log.role ≡ Server
    → greatest_processed (events ++ log.reported) ≤ least_goaway log.sent

-- Items without GOAWAY leave the least last stream.
wrote_least : (log : Log) (items : List Item) → list_any is_goaway items ≡ false
    → least_goaway (with_sent log items).sent ≡ least_goaway log.sent
unfolding with_sent
wrote_least log [] none = refl
wrote_least log (item ∷ items) none = least_kept (item ∷ items) log.sent none

-- The items of a call leave it, or are a GOAWAY with the last stream that was processed.
call_least : (log : Log) (act : Act) → log.role ≡ Server
    → greatest_processed log.reported ≤ least_goaway log.sent
    → greatest_processed log.reported
    ≤ least_goaway (with_sent (called log act (answer_of (log_view log) act))
    (items_of (log_view log) act (answer_of (log_view log) act))).sent
unfolding items_of last_processed least_goaway with_sent
call_least log SendGoAway server low =
    omega (arith, low, last_is log.role (greatest_processed log.reported) server)
call_least log act server low =
    let same = wrote_least (called log act (answer_of (log_view log) act))
    (items_of (log_view log) act (answer_of (log_view log) act))
    (items_none (log_view log) act (λ same. cc)) in
    omega arith

-- Each change of a log keeps it.
low_kept : (role : Role) (values : Values) → IsPendingInvariant role values IsLow
unfolding opened with_sent greatest_processed processed_by least_goaway
low_kept role values = record {
  opening = λ in_range up server. omega arith;
  used = λ log octets unparsed low. low;
  framed = λ log frames low. low;
  begun = λ log begun begins low. low;
  complete = λ log low. low;
  replied = λ log decoded item verdict replies low up server.
      let next = read log decoded item in
      let g = grows_wrote next (replies_to verdict item) in
      let own : log.role ≡ Server = sym g.role ∙ server in
      let small = stream_low item (comes_fit role values log decoded item replies.comes) in
      let fits : Fits (Resets log item) (Reports log item) verdict =
      rw replies.is at (verdict_fits log decoded item) in
      rw (g.reported, wrote_least next (replies_to verdict item) (replies_none verdict item))
      (processed_append (events_of (log_view log) decoded verdict item) log.reported _
      (events_low log decoded verdict item own (omega (arith, small)) fits)
      (low (g.up up) own));
  named = λ log is still some low up server. omega (arith, low up server);
  reported = λ log event events may low. low;
  unreturned = λ events log count low. low;
  returned = λ events log returns low. low;
  failed = λ log code last names low up. absurd (fails_down code last log up);
  sent = λ log act accepted low up server.
      let next = called log act (answer_of (log_view log) act) in
      let g = grows_wrote next (items_of (log_view log) act (answer_of (log_view log) act)) in
      let own : log.role ≡ Server = sym g.role ∙ server in
      rw g.reported (call_least log act own (low (g.up up) own));
  called = λ log act answer is none low. low;
  given = λ log more low. low;
}

-- What a GOAWAY names is no greater, at a server, and so at a client, which names none.
names_low : (role : Role) (n most : ℕ) → (role ≡ Server → n ≤ most)
    → (if is_server role then n else 0) ≤ most
names_low Server n most low = low refl
names_low Client n most low = omega arith

-- The numbers of every log whose connection is up fit.
pub numbers_fit : (role : Role) (values : Values) (log : Log) → IsLog role values log
    → log.failed ≡ None → NumbersFit (history_of log)
numbers_fit role values log is up = record {
  processed = names_low log.role (greatest_processed log.reported) (least_goaway log.sent)
      (pending_by_logs role values IsLow (low_kept role values) log is up);
  reset_read = up_by_logs role values
      (λ role received sent reported calls. ResetsAreUsed role received sent)
      (resets_kept role values) log is up;
}
