-- What every log has read, and what was reported of it: calls; and so every log.
use Rattle.h2_laws_end.proofs.Names
use Names.{false, [], refl, Role, Values, Act, Log, log_view, called, IsLog, items_of, opened}
use Names.{both_ways, SendGoAway, answer_of, is_goaway, with_sent, items_read, events_read, last_is}
use Names.{IsPendingInvariant, pending_by_logs, greatest_processed, last_processed, events_of_items}
use Rattle.h2_laws_end.specs.Readings.{HasReadings}
use Rattle.h2_laws_log.proofs.NoGoAways.{items_none}
use Rattle.h2_laws_end.proofs.Readings.{LogIsRead, PendingRead, wrote_goaway, named, wrote_keeps}
use Rattle.h2_laws_end.proofs.Readings.{failure_keeps, replied_read}
use Rattle.h2_laws_end.proofs.ReadingRules.{some_above}

-- The items of a call that is accepted.
call_keeps : (log : Log) (act : Act) → LogIsRead log
    → LogIsRead (with_sent (called log act (answer_of (log_view log) act))
    (items_of (log_view log) act (answer_of (log_view log) act)))
unfolding items_of with_sent last_processed
call_keeps log SendGoAway are = wrote_goaway _ _ _ _ _ _ _ (λ server. last_is log.role _ server) are
call_keeps log act are =
    wrote_keeps [] (called log act (answer_of (log_view log) act))
    (items_of (log_view log) act (answer_of (log_view log) act))
    (items_none (log_view log) act (λ same. cc)) are

-- A new log.
begins_read : (role : Role) (values : Values) → LogIsRead (opened role values)
unfolding opened with_sent items_read events_read events_of_items is_goaway greatest_processed
begins_read role values = record {
  readings = [];
  items = refl;
  events = refl;
  each = refl;
  decoded_in = refl;
  low = λ up server i some unused.
      (some_above i some, λ goaway. absurd (both_ways false refl goaway));
}

-- Each change keeps it.
read_kept : (role : Role) (values : Values) → IsPendingInvariant role values PendingRead
unfolding is_goaway
read_kept role values = record {
  opening = λ in_range. begins_read role values;
  used = λ log octets unparsed are. are;
  framed = λ log frames are. are;
  begun = λ log begun begins are. are;
  complete = λ log are. are;
  replied = replied_read role values;
  named = λ log is up some.
      named log.role log.received log.sent log.reported log.table log.failed _;
  reported = λ log event events may are. are;
  unreturned = λ events log count are. are;
  returned = λ events log returns. wrote_keeps events (record log { unreturned = 0 }) _ refl;
  failed = λ log code last names. failure_keeps code last log;
  sent = λ log act accepted. call_keeps log act;
  called = λ log act answer is none are. are;
  given = λ log more are. are;
}

-- Every log.
pub log_read : (role : Role) (values : Values) (log : Log) → IsLog role values log → LogIsRead log
log_read role values = pending_by_logs role values PendingRead (read_kept role values)

pub log_has_readings : (role : Role) (values : Values) (log : Log) → IsLog role values log
    → HasReadings log
log_has_readings role values log is =
    let are = log_read role values log is in
    record {
      readings = are.readings;
      items = are.items;
      events = are.events;
      each = are.each;
      decoded = are.decoded_in;
    }
