-- A server that is up says by no GOAWAY that it doesn't process a stream on which it has sent part
-- of a message (RFC 9113, section 6.8).
use Rattle.h2_spec_log.specs.Events.{greatest_processed}
use Rattle.h2_laws_log.proofs.CallConditions.{neither_one}
use Rattle.h2_laws_log.proofs.LogHistory.{processed_after}
use Rattle.h2_laws_log.proofs.LogViewLemmas.{stream_is_active}
use Rattle.h2_laws_pair.proofs.Names
use Names.{◌≡◌, inl, inr, ℕ, ◌≤◌, ◌==◌, Bool, true, false, if◌then◌else◌, List, [], ◌∷◌, ◌++◌, None}
use Names.{Widen}
use Names.{refl, ap, ◌∙◌, arith, list_any, AllByRecursion, both_ways, or_from, eqb-true, le-ltb}
use Names.{or_cases, list_any-append, Field, Data, Settings, Ping, GoAway, WindowUpdate, Item}
use Names.{alone, block, Role, Server, is_goaway_below, Values, Act, Open, SendFields, SendData}
use Names.{Release, is_server, Log, active, last_processed, log_view, Verdict, NoEvent, replies_to}
use Names.{conditions, items_of, answer_of, refusal_of, read, with_sent, opened, called, IsLog}
use Names.{stream_of_log, none_holds, grows_wrote, fails_down, any_either, IsLogInvariant}
use Names.{kept_by_logs, active_parts, SendGoAway, is_above}
use Rattle.h2_laws_pair.proofs.DataItems.{data_all}
use Rattle.h2_laws_machine.proofs.GoAwaysSent.{active_processed}

-- Whether the item is part of a message on the stream.
unfoldable pub speaks : ℕ → Item → Bool
speaks i (block stream end octets) = stream == i
speaks i (alone (Data stream end octets pad)) = stream == i
speaks i item = false

-- The stream was processed, and stands above no last stream of these items.
pub record IsStillProcessed (processed i : ℕ) (sent : List Item) : Type 0 where
  pub low : i ≤ processed
  pub below : list_any (is_goaway_below i) sent ≡ false

-- Each stream on which something was sent.
abbrev pub IsBelow : Log → Type 0
IsBelow log = (i : ℕ) → list_any (speaks i) log.sent ≡ true
    → IsStillProcessed (greatest_processed log.reported) i log.sent

-- What may be written: parts of messages on streams that were processed, and GOAWAYs above these.
record KeepProcessed (processed : ℕ) (sent items : List Item) : Type 0 where
  pub spoken : (i : ℕ) → list_any (speaks i) items ≡ true → IsStillProcessed processed i sent
  pub above : (i : ℕ) → i ≤ processed → list_any (is_goaway_below i) items ≡ false

-- Items that keep it.
below_more : (processed : ℕ) (sent items : List Item) → KeepProcessed processed sent items
    → ((i : ℕ) → list_any (speaks i) sent ≡ true → IsStillProcessed processed i sent)
    → (i : ℕ) → list_any (speaks i) (items ++ sent) ≡ true
    → IsStillProcessed processed i (items ++ sent)
below_more processed sent items fit before i here =
    let old : IsStillProcessed processed i sent = elim (any_either (speaks i) items sent here) [
      | inl now ↦ fit.spoken i now
      | inr was ↦ before i was
    ] in
    record {
      low = old.low;
      below = list_any-append (is_goaway_below i) items sent
          ∙ or_from _ _ (fit.above i old.low) old.below;
    }

wrote_below : (log : Log) (items : List Item)
    → KeepProcessed (greatest_processed log.reported) log.sent items → IsBelow log
    → IsBelow (with_sent log items)
unfolding with_sent
wrote_below log [] fit is = is
wrote_below log (item ∷ items) fit is = below_more _ _ (item ∷ items) fit is

-- Items that are no part of a message and no GOAWAY fit.
abbrev AreQuiet : List Item → Type 0
AreQuiet items = (i : ℕ) → (list_any (speaks i) items ≡ false)
    × (list_any (is_goaway_below i) items ≡ false)

quiet_fits : (processed : ℕ) (sent items : List Item) → AreQuiet items
    → KeepProcessed processed sent items
quiet_fits processed sent items quiet = record {
  spoken = λ i here. absurd (both_ways _ (quiet i).0 here);
  above = λ i low. (quiet i).1;
}

wrote_quiet : (log : Log) (items : List Item) → AreQuiet items → IsBelow log
    → IsBelow (with_sent log items)
wrote_quiet log items quiet is = wrote_below log items (quiet_fits _ log.sent items quiet) is

-- Credit is quiet.
update_quiet : (count : ℕ) → AreQuiet (alone (WindowUpdate 0 count) ∷ [])
unfolding speaks is_goaway_below
update_quiet count i = (refl, refl)

-- Replies are quiet.
replies_quiet : (verdict : Verdict) (item : Item) → AreQuiet (replies_to verdict item)
unfolding replies_to speaks is_goaway_below
replies_quiet NoEvent (alone (Settings false pairs)) i = (refl, refl)
replies_quiet NoEvent (alone (Ping false octets)) i = (refl, refl)
replies_quiet verdict item i = (refl, refl)

-- The item is part of no message on another stream, and is no GOAWAY.
record IsOn (id : ℕ) (item : Item) : Type 0 where
  pub only : (i : ℕ) → speaks i item ≡ true → id ≡ i
  pub stays : (i : ℕ) → is_goaway_below i item ≡ false

data_on_stream : (id : ℕ) (end : Bool) (octets : List ℕ) → IsOn id (alone (Data id end octets None))
unfolding speaks is_goaway_below
data_on_stream id end octets = record { only = λ i. eqb-true id i; stays = λ i. refl }

block_on_stream : (id : ℕ) (end : Bool) (octets : List ℕ) → IsOn id (block id end octets)
unfolding speaks is_goaway_below
block_on_stream id end octets = record { only = λ i. eqb-true id i; stays = λ i. refl }

-- So it is with all of them.
only_on : (id i : ℕ) (items : List Item) → AllByRecursion (IsOn id) items
    → list_any (speaks i) items ≡ true → id ≡ i
only_on id i [] all here = absurd (both_ways false refl here)
only_on id i (item ∷ items) all here =
    elim (or_cases (speaks i item) (list_any (speaks i) items) here) [
      | inl now ↦ all.0.only i now
      | inr later ↦ only_on id i items all.1 later
    ]

none_below : (id i : ℕ) (items : List Item) → AllByRecursion (IsOn id) items
    → list_any (is_goaway_below i) items ≡ false
none_below id i [] all = refl
none_below id i (item ∷ items) all = or_from _ _ (all.0.stays i) (none_below id i items all.1)

-- A server opens nothing.
opens_nothing : (log : Log) (fields : List Field) (end : Bool) → log.role ≡ Server
    → refusal_of (log_view log) (Open fields end) ≡ None → ⊥
unfolding conditions
opens_nothing log fields end server none =
    both_ways _ (neither_one _ _ (none_holds _ none).1.1.0) (ap is_server server)

-- At a server that is up, an active stream is kept.
record IsServer (log : Log) : Type 0 where
  pub server : log.role ≡ Server
  pub up : log.failed ≡ None
  pub kept : (i : ℕ) → active log i ≡ true
      → IsStillProcessed (greatest_processed log.reported) i log.sent

stream_fits : (log : Log) (id : ℕ) (items : List Item) → IsServer log → active log id ≡ true
    → AllByRecursion (IsOn id) items
    → KeepProcessed (greatest_processed log.reported) log.sent items
stream_fits log id items server alive is = record {
  spoken = λ i here. rw (← only_on id i items is here) (server.kept id alive);
  above = λ i low. none_below id i items is;
}

-- GOAWAY names the last stream that was processed.
goaway_fits : (log : Log) → log.role ≡ Server
    → KeepProcessed (greatest_processed log.reported) log.sent
    (alone (GoAway (last_processed log) 0 []) ∷ [])
unfolding speaks is_goaway_below last_processed
goaway_fits log server = record {
  spoken = λ i here. absurd (both_ways false refl here);
  above = λ i low. rw server (or_from _ _
      (le-ltb (greatest_processed log.reported) i low) refl);
}

-- What a release writes.
updates_quiet : (id count : ℕ) (ended : Bool) → AreQuiet (alone
    (WindowUpdate 0 count) ∷ (if ended then [] else alone (WindowUpdate id count) ∷ []))
unfolding speaks is_goaway_below
updates_quiet id count true i = (refl, refl)
updates_quiet id count false i = (refl, refl)

-- The items of a call that is accepted.
items_fit : (log : Log) (act : Act) → IsServer log → refusal_of (log_view log) act ≡ None
    → KeepProcessed (greatest_processed log.reported) log.sent
    (items_of (log_view log) act (answer_of (log_view log) act))
unfolding items_of speaks is_goaway_below conditions
items_fit log (Open fields end) server none =
    absurd (opens_nothing log fields end server.server none)
items_fit log (SendFields id fields end) server none =
    stream_fits log id _ server (stream_is_active log id (none_holds _ none).1.0)
    (block_on_stream id end _, tt)
items_fit log (SendData id octets end) server none =
    stream_fits log id _ server (stream_is_active log id (none_holds _ none).1.0)
    (data_all (IsOn id) id (data_on_stream id) (log_view log).max_payload octets end _)
items_fit log (Release id count) server none = quiet_fits _ _ _ (updates_quiet _ _ _)
items_fit log (Widen count) server none = quiet_fits _ _ _ (update_quiet count)
items_fit log SendGoAway server none = goaway_fits log server.server
items_fit log act server none = quiet_fits _ _ _ (λ i. (refl, refl))

-- A new end has sent no part of a message.
opened_below : (role : Role) (values : Values) → IsBelow (opened role values)
unfolding opened with_sent speaks
opened_below role values i here = absurd (both_ways false refl here)

-- What a server keeps.
server_keeps : (values : Values) (log : Log) → IsLog Server values log → log.failed ≡ None
    → IsServer log
unfolding is_above last_processed
server_keeps values log is up =
    let own = (stream_of_log Server values log is).role in
    record {
      server = own;
      up = up;
      kept = λ i alive. record {
        low = rw own at (active_processed Server values log is up (ap is_server own) i alive);
        below = rw own at (active_parts log.role i log.received log.sent log.reported alive).below;
      };
    }

module _ (values : Values) where
  -- Each change of a server keeps it, as long as the server is up.
  keeps_below : IsLogInvariant Server values (λ log. log.failed ≡ None → IsBelow log)
  keeps_below = record {
    opening = λ in_range up. opened_below Server values;
    used = λ log octets unparsed is. is;
    framed = λ log frames is. is;
    begun = λ log begun is. is;
    replied = λ log decoded item verdict replies is up. wrote_quiet (read log decoded item) _
        (replies_quiet verdict item) (is ((grows_wrote (read log decoded item) _).up up));
    reported = λ log event events may is up i here.
        let old = is up i here in
        record {
          low = omega (arith, old.low, processed_after (event ∷ events) log.reported);
          below = old.below;
        };
    unreturned = λ log count is. is;
    returned = λ log returns is up. wrote_quiet (record log { unreturned = 0 }) _
        (update_quiet log.unreturned) (is ((grows_wrote (record log { unreturned = 0 }) _).up up));
    failed = λ log code last names is up. absurd (fails_down code last log up);
    called = λ log act answer is_log none is. is;
    sent = λ log act accepted is up.
        let answer = answer_of (log_view log) act in
        let was = (grows_wrote (called log act answer) _).up up in
        wrote_below (called log act answer) _
        (items_fit log act (server_keeps values log accepted.is was) accepted.none) (is was);
    given = λ log more is. is;
  }

  -- Every server that is up.
  pub spoken_below : (log : Log) → IsLog Server values log → log.failed ≡ None → IsBelow log
  spoken_below log is =
      kept_by_logs Server values (λ log. log.failed ≡ None → IsBelow log) (keeps_below) log is
