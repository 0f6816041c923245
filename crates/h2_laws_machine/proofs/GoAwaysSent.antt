-- At a server that hasn't failed no active stream is above the last one that was processed, whether
-- a GOAWAY was sent or not. So the GOAWAY of a failure closes none.
use Rattle.h2_laws_machine.proofs.Names
use Names.{◌≡◌, ℕ, ◌≤◌, ◌<◌, ◌||◌, nat_lt, Bool, true, false, List, [], ◌∷◌, ◌++◌, Some, None, refl}
use Names.{sym, ◌∙◌, arith, list_any, both_ways, or_left, or_right, lt-ltb, ltb-false, ltb-true}
use Names.{InternalError, GoAway, Item, alone, Role, Client, Server, is_goaway, is_goaway_below}
use Names.{greatest_processed, Values, Act, SendGoAway, OutOfMemory, is_server, is_above, Log}
use Names.{active, last_processed, log_view, items_of, answer_of, read, with_sent, opened, called}
use Names.{with_call, IsLog, active_parts, chosen_low, IsUpInvariant, up_by_logs, processed_after}
use Names.{items_none, replies_none}
use Rattle.h2_laws_machine.proofs.UpInvariant.{IsUpLog}
use Rattle.h2_laws_machine.proofs.UpInvariantLogs.{up_log_of}

-- Where one of the items is GOAWAY, one has a last stream no greater than this number.
abbrev HasLow : ℕ → List Item → Type 0
HasLow n items = (i : ℕ) → n < i → list_any is_goaway items ≡ true
    → list_any (is_goaway_below i) items ≡ true

-- the same of a log, by the greatest stream that was processed
abbrev IsLow : Log → Type 0
IsLow log = HasLow (greatest_processed log.reported) log.sent

-- Items without GOAWAY keep it.
low_more : (n : ℕ) (more items : List Item) → list_any is_goaway more ≡ false → HasLow n items
    → HasLow n (more ++ items)
low_more n [] items none low i above some = low i above some
low_more n (item ∷ more) items none low i above some =
    by (is_goaway item) (list_any is_goaway more) none some
    (λ is here. or_right (is_goaway_below i item) _ (low_more n more items is low i above here))
  where
    by : (a b : Bool) → (a || b) ≡ false → (a || list_any is_goaway (more ++ items)) ≡ true
        → (b ≡ false → list_any is_goaway (more ++ items) ≡ true
        → list_any (is_goaway_below i) (item ∷ more ++ items) ≡ true)
        → list_any (is_goaway_below i) (item ∷ more ++ items) ≡ true
    by true b is here all = cc
    by false b is here all = all is here

-- A greater number keeps it.
low_up : (n m : ℕ) (items : List Item) → n ≤ m → HasLow n items → HasLow m items
low_up n m items le low i above some = low i (omega arith) some

-- Items without GOAWAY are written.
low_wrote : (log : Log) (items : List Item) → list_any is_goaway items ≡ false → IsLow log
    → IsLow (with_sent log items)
unfolding with_sent
low_wrote log [] none low = low
low_wrote log (item ∷ items) none low =
    low_more (greatest_processed log.reported) (item ∷ items) log.sent none low

-- The GOAWAY of a call has the last stream that was processed.
low_goaway : (log : Log) (items : List Item) → last_processed log ≤ greatest_processed log.reported
    → HasLow (greatest_processed log.reported) (alone (GoAway (last_processed log) 0 []) ∷ items)
unfolding is_goaway_below
low_goaway log items last i above some = or_left _ _ (lt-ltb (last_processed log) i (omega arith))

-- The items of a call that is accepted keep it where none is GOAWAY.
low_none_of : (log : Log) (act : Act)
    → list_any is_goaway (items_of (log_view log) act (answer_of (log_view log) act)) ≡ false
    → IsLow log
    → HasLow (greatest_processed log.reported)
    (items_of (log_view log) act (answer_of (log_view log) act) ++ log.sent)
low_none_of log act none low =
    low_more (greatest_processed log.reported)
    (items_of (log_view log) act (answer_of (log_view log) act)) log.sent none low

-- The items of a call that is accepted keep it.
low_items : (log : Log) (act : Act) → IsLow log
    → HasLow (greatest_processed log.reported)
    (items_of (log_view log) act (answer_of (log_view log) act) ++ log.sent)
unfolding items_of is_goaway last_processed
low_items log SendGoAway low =
    low_goaway log log.sent (chosen_low (is_server log.role) (greatest_processed log.reported))
low_items log act low = low_none_of log act (items_none (log_view log) act (λ same. cc)) low

-- Items are written that keep it.
low_sent : (log : Log) (items : List Item)
    → HasLow (greatest_processed log.reported) (items ++ log.sent) → IsLow (with_sent log items)
unfolding with_sent
low_sent log [] low = low
low_sent log (item ∷ items) low = low

-- A connection that fails by a call has failed.
pub memory_fails : (log : Log) (act : Act) → (with_call log act OutOfMemory).failed ≡ None → ⊥
unfolding with_call
memory_fails log act up = let wrong : Some InternalError ≡ None = up in cc

-- A new end has sent none.
low_opened : (role : Role) (values : Values) → IsLow (opened role values)
unfolding opened with_sent is_goaway
low_opened role values i above some = absurd (both_ways false refl some)

-- Each change of a log keeps it, as long as the connection is up.
low_kept : (role : Role) (values : Values) → IsUpInvariant role values
    (λ role received sent reported calls. HasLow (greatest_processed reported) sent)
unfolding is_goaway
low_kept role values = record {
  opening = λ in_range. low_opened role values;
  replied = λ log decoded item verdict replies.
      low_wrote (read log decoded item) _ (replies_none verdict item);
  reported = λ log event events may.
      low_up _ _ log.sent (processed_after (event ∷ events) log.reported);
  returned = λ log returns. low_more _ (_ ∷ []) log.sent refl;
  sent = λ log act accepted low.
      low_sent (called log act (answer_of (log_view log) act)) _ (low_items log act low);
  called = λ log act answer is_log none low. low;
}

-- Where a log that hasn't failed has a GOAWAY, one has a last stream that was processed, or 0.
low_of : (role : Role) (values : Values) (log : Log) → IsLog role values log → log.failed ≡ None
    → IsLow log
low_of role values = up_by_logs role values _ (low_kept role values)

-- what is above an own GOAWAY, at a server
above_server : (role : Role) (i : ℕ) (sent : List Item) → is_server role ≡ true
    → is_above role i sent ≡ list_any (is_goaway_below i) sent
unfolding is_above
above_server Client i sent is = cc
above_server Server i sent is = refl

-- the greatest stream that a server processed
pub processed_at_server : (log : Log) → is_server log.role ≡ true
    → last_processed log ≡ greatest_processed log.reported
unfolding last_processed
processed_at_server log is = rw is refl

-- An active stream is no greater than the last one that was processed, by whether there is a
-- GOAWAY, and by the test.
active_low_by : (log : Log) (i : ℕ) (goaway above : Bool) → IsUpLog log → IsLow log
    → is_server log.role ≡ true → active log i ≡ true → list_any is_goaway log.sent ≡ goaway
    → nat_lt (greatest_processed log.reported) i ≡ above → i ≤ greatest_processed log.reported
active_low_by log i false above up_log low server active_is goaway test =
    up_log.processed server goaway i active_is
active_low_by log i true false up_log low server active_is goaway test =
    ltb-false (greatest_processed log.reported) i test
active_low_by log i true true up_log low server active_is goaway test =
    let parts = active_parts log.role i log.received log.sent log.reported active_is in
    absurd (both_ways (list_any (is_goaway_below i) log.sent)
    (sym (above_server log.role i log.sent server) ∙ parts.below)
    (low i (ltb-true (greatest_processed log.reported) i test) goaway))

-- At a server that hasn't failed an active stream is no greater than the last one that was
-- processed.
pub active_processed : (role : Role) (values : Values) (log : Log) → IsLog role values log
    → log.failed ≡ None → is_server log.role ≡ true → (i : ℕ) → active log i ≡ true
    → i ≤ last_processed log
active_processed role values log came up server i active_is =
    let low = active_low_by log i _ _ (up_log_of role values log came up)
    (low_of role values log came up) server active_is refl refl in
    omega (arith, low, processed_at_server log server)
