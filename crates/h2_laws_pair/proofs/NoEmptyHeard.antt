-- What an end reports of DATA is what it has received: where no DATA that it has received is empty
-- without END_STREAM, no event is.
use Rattle.h2_laws_pair.specs.Tokens.{IsNoEmptyData}
use Rattle.h2_laws_pair.proofs.Names
use Names.{List, ◌∷◌, Option, AllByRecursion, Data, Item, alone, Role, Event, Values, Log, log_view}
use Names.{View, Verdict, Reported, Decoded, replies_to, events_of, read, with_sent, opened, called}
use Names.{answer_of, IsLog, Grows, grows_wrote, IsLogInvariant, kept_by_logs, MayReport, of_item}
use Names.{of_unprocessed, Half, IsPair, rules}
use Rattle.h2_laws_pair.proofs.Lists.{all_both, all_older}
use Rattle.h2_laws_pair.proofs.BothWays.{IsDirection, to_server, to_client, ends_of}
use Rattle.h2_laws_pair.proofs.CarriedItems.{way_of}
use Rattle.h2_laws_pair.proofs.NoEmptySent.{CarriesNoEmptyData, sent_no_empty}

-- No event is empty, where no item is.
abbrev AreReported : (received : List Item) (reported : List Event) → Type 0
AreReported received reported = AllByRecursion CarriesNoEmptyData received
    → AllByRecursion IsNoEmptyData reported

abbrev LogReports : Log → Type 0
LogReports log = AreReported log.received log.reported

-- What is reported of an item.
events_report : (view : View) (decoded : Option Decoded) (verdict : Verdict) (item : Item)
    → CarriesNoEmptyData item → AllByRecursion IsNoEmptyData (events_of view decoded verdict item)
unfolding events_of CarriesNoEmptyData IsNoEmptyData
events_report view decoded Reported (alone (Data stream end octets pad)) some = (some, tt)
events_report view decoded verdict item some = search rules

-- What is reported next.
reported_some : (role : Role) (values : Values) (log : Log) (events : List Event)
    → MayReport role values log events → AllByRecursion CarriesNoEmptyData log.received
    → AllByRecursion IsNoEmptyData events
unfolding IsNoEmptyData
reported_some role values log _ (of_item before decoded item verdict replies grows) all =
    events_report (log_view before) decoded verdict item (rw grows.received at all).0
reported_some role values log _ (of_unprocessed before is up some grows) all = (tt, tt)

-- A log that writes keeps it.
reports_grows : (old new : Log) → Grows old new → LogReports old → LogReports new
reports_grows old new grows is = rw (grows.received, grows.reported) is

-- Each change of a log keeps it.
reports_kept : (role : Role) (values : Values) → IsLogInvariant role values LogReports
unfolding opened with_sent IsNoEmptyData
reports_kept role values = record {
  opening = λ in_range all. tt;
  used = λ log octets unparsed is. is;
  framed = λ log frames is. is;
  begun = λ log begun is. is;
  replied = λ log decoded item verdict replies is.
      let wrote = grows_wrote (read log decoded item) (replies_to verdict item) in
      rw (wrote.received, wrote.reported) (λ all. is all.1);
  reported = λ log event events may is all. all_both IsNoEmptyData (event ∷ events) log.reported
      (reported_some role values log _ may all) (is all);
  unreturned = λ log count is. is;
  returned = λ log returns is. is;
  failed = λ log code last names is. is;
  sent = λ log act accepted is.
      reports_grows (called log act (answer_of (log_view log) act)) _ (grows_wrote _ _) is;
  called = λ log act answer is_log none is. is;
  given = λ log more is. is;
}

-- Every log.
log_reports : (role : Role) (values : Values) (log : Log) → IsLog role values log → LogReports log
log_reports role values = kept_by_logs role values LogReports (reports_kept role values)

-- What an end of a pair has received was sent, so it is reported.
reader_reports : (writer reader : Half) → IsDirection writer reader
    → AllByRecursion IsNoEmptyData reader.log.reported
reader_reports writer reader is =
    let ends = ends_of writer reader is in
    let way = way_of writer reader is in
    log_reports _ _ reader.log ends.reader_log
    (all_older CarriesNoEmptyData way.0 reader.log.received
    (rw way.1 at (sent_no_empty _ _ writer.log ends.writer_log)))

module _ (client_values server_values : Values) (client server : Half) where
  -- At the server, and at the client.
  pub server_reports : IsPair client_values server_values client server
      → AllByRecursion IsNoEmptyData server.log.reported
  server_reports is = reader_reports client server (to_server is)

  pub client_reports : IsPair client_values server_values client server
      → AllByRecursion IsNoEmptyData client.log.reported
  client_reports is = reader_reports server client (to_client is)
