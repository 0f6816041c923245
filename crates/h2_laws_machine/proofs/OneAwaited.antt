-- One own PING at most awaits its answer, and one own SETTINGS their acknowledgment.
use Rattle.h2_laws_machine.proofs.Names
use Names.{◌≡◌, ◌≤◌, ℕ, ◌+◌, Bool, true, false, if◌then◌else◌, List, [], ◌∷◌, ◌++◌, None, refl, sym}
use Names.{◌∙◌, arith, ltb-false, Settings, Ping, WindowUpdate, Item, alone, Role, one_ping, total}
use Names.{Event, one_acked, one_pong, reported_total, Values, Act, SendData, Release, SendPing}
use Names.{ChangeSettings, one_settings, settings_count, Log, acked, log_view, ended_in, Verdict}
use Names.{NoEvent, replies_to, conditions, refusal_of, items_of, answer_of, data_items, read}
use Names.{with_sent, opened, called, IsLog, when_some, none_holds, reported_append}
use Rattle.h2_laws_log.proofs.LogInduction.{IsLogInvariant, kept_by_logs}
use Rattle.h2_laws_log.proofs.LogHistory.{settings_append}
use Rattle.h2_laws_log.proofs.WindowsOfTwoEnds.{total-append}
use Rattle.h2_laws_log.proofs.DataOfCalls.{none_of_items}

-- One own PING at most awaits its answer, and one own SETTINGS their acknowledgment.
pub record AwaitsOne (sent : List Item) (reported : List Event) : Type 0 where
  pub pings : total one_ping sent ≤ reported_total one_pong reported + 1
  pub settings : settings_count sent ≤ reported_total one_acked reported + 1

-- the same of a log
abbrev pub LogAwaitsOne : Log → Type 0
LogAwaitsOne log = AwaitsOne log.sent log.reported

-- Items of which none awaits anything.
record AwaitNothing (items : List Item) : Type 0 where
  pub pings : total one_ping items ≡ 0
  pub settings : settings_count items ≡ 0

-- Such items keep it.
one_more : (items sent : List Item) (reported : List Event) → AwaitNothing items
    → AwaitsOne sent reported → AwaitsOne (items ++ sent) reported
one_more items sent reported none one = record {
  pings = omega (arith, total-append one_ping items sent, none.pings, one.pings);
  settings = omega (arith, settings_append items sent, none.settings, one.settings);
}

-- Items are written that keep it.
one_sent : (log : Log) (items : List Item) → AwaitsOne (items ++ log.sent) log.reported
    → LogAwaitsOne (with_sent log items)
unfolding with_sent
one_sent log [] one = one
one_sent log (item ∷ items) one = one

-- Items that await nothing are written.
one_wrote : (log : Log) (items : List Item) → AwaitNothing items → LogAwaitsOne log
    → LogAwaitsOne (with_sent log items)
one_wrote log items none one = one_sent log items (one_more items log.sent log.reported none one)

-- No reply awaits anything.
replies_none : (v : Verdict) (item : Item) → AwaitNothing (replies_to v item)
unfolding replies_to one_ping one_settings total settings_count
replies_none NoEvent (alone (Settings false pairs)) = record { pings = refl; settings = refl }
replies_none NoEvent (alone (Ping false octets)) = record { pings = refl; settings = refl }
replies_none other item = record { pings = refl; settings = refl }

-- SETTINGS are counted by a sum.
settings_total : (items : List Item) → settings_count items ≡ total one_settings items
unfolding settings_count total
settings_total [] = refl
settings_total (item ∷ items) = omega (arith, settings_total items)

-- DATA of a call await nothing.
data_none : (most id : ℕ) (octets : List ℕ) (end : Bool) (count : ℕ)
    → AwaitNothing (data_items most id octets end count)
unfolding one_ping one_settings
data_none most id octets end count = record {
  pings = none_of_items one_ping (λ i last some. refl) most id octets end count;
  settings = settings_total (data_items most id octets end count)
      ∙ none_of_items one_settings (λ i last some. refl) most id octets end count;
}

-- Nor do the updates of a release, by the test.
release_none : (id count : ℕ) (ended : Bool)
    → AwaitNothing (alone (WindowUpdate 0 count) ∷
    (if ended then [] else alone (WindowUpdate id count) ∷ []))
unfolding one_ping one_settings total settings_count
release_none id count true = record { pings = refl; settings = refl }
release_none id count false = record { pings = refl; settings = refl }

-- A PING is sent where none awaits its answer.
ping_one : (log : Log) (octets : List ℕ) → refusal_of (log_view log) (SendPing octets) ≡ None
    → LogAwaitsOne log → AwaitsOne (alone (Ping false octets) ∷ log.sent) log.reported
unfolding conditions one_ping one_settings total settings_count
ping_one log octets none one =
    let holds = none_holds _ none in
    let answered = ltb-false _ _ (sym (when_some _ _) ∙ holds.1.1.0) in
    record { pings = omega (arith, answered); settings = omega (arith, one.settings) }

-- SETTINGS are sent where none await their acknowledgment.
settings_one : (log : Log) (values : Values) (pairs : List (ℕ × ℕ))
    → refusal_of (log_view log) (ChangeSettings values) ≡ None
    → LogAwaitsOne log → AwaitsOne (alone (Settings false pairs) ∷ log.sent) log.reported
unfolding conditions one_ping one_settings total settings_count
settings_one log values pairs none one =
    let holds = none_holds _ none in
    let answered = ltb-false (acked log) (settings_count log.sent) holds.1.1.0 in
    record { pings = omega (arith, one.pings); settings = omega (arith, answered) }

-- The items of a call that is accepted keep it where none awaits anything.
one_none_of : (log : Log) (act : Act)
    → AwaitNothing (items_of (log_view log) act (answer_of (log_view log) act))
    → LogAwaitsOne log
    → AwaitsOne (items_of (log_view log) act (answer_of (log_view log) act) ++ log.sent)
    log.reported
one_none_of log act none one = one_more _ _ log.reported none one

-- The items of a call that is accepted keep it.
one_items : (log : Log) (act : Act) → refusal_of (log_view log) act ≡ None → LogAwaitsOne log
    → AwaitsOne (items_of (log_view log) act (answer_of (log_view log) act) ++ log.sent)
    log.reported
unfolding items_of one_ping one_settings total settings_count
one_items log (SendData id octets end) none one =
    one_none_of log (SendData id octets end)
    (data_none (log_view log).max_payload id octets end _) one
one_items log (Release id count) none one =
    one_none_of log (Release id count) (release_none _ _ (ended_in ((log_view log).stream id))) one
one_items log (SendPing octets) none one = ping_one log octets none one
one_items log (ChangeSettings values) none one = settings_one log values _ none one
one_items log act none one = one_none_of log act (record { pings = refl; settings = refl }) one

-- A new end's SETTINGS await their acknowledgment.
one_opened : (role : Role) (values : Values) → LogAwaitsOne (opened role values)
unfolding opened with_sent one_ping one_settings total settings_count reported_total
one_opened role values = record { pings = omega arith; settings = omega arith }

-- Each change of a log keeps it.
one_kept : (role : Role) (values : Values) → IsLogInvariant role values LogAwaitsOne
unfolding one_ping one_settings total settings_count
one_kept role values = record {
  opening = λ in_range. one_opened role values;
  used = λ log octets unparsed one. one;
  framed = λ log frames one. one;
  begun = λ log begun one. one;
  replied = λ log decoded item verdict replies one.
      one_wrote (read log decoded item) _ (replies_none verdict item) one;
  reported = λ log event events may one. record {
    pings = omega (arith, reported_append one_pong (event ∷ events) log.reported, one.pings);
    settings = omega (arith, reported_append);
  };
  unreturned = λ log count one. one;
  returned = λ log returns one.
      one_wrote (record log { unreturned = 0 }) _ (record { pings = refl; settings = refl })
      one;
  failed = λ log code last names one.
      one_wrote log _ (record { pings = refl; settings = refl }) one;
  sent = λ log act accepted one. one_sent (called log act (answer_of (log_view log) act)) _
      (one_items log act accepted.none one);
  called = λ log act answer is_log none one. one;
  given = λ log more one. one;
}

-- So it is of every log that hasn't failed.
pub awaits_one : (role : Role) (values : Values) (log : Log) → IsLog role values log
    → log.failed ≡ None → LogAwaitsOne log
awaits_one role values log is up = kept_by_logs role values LogAwaitsOne (one_kept _ _) log is
