-- The header tables of both ends of a pair are in step.
use Rattle.h2_laws_pair.proofs.Names
use Names.{◌≡◌, ◌+◌, ◌≤◌, List, ◌++◌, refl, sym, ap, ◌∙◌, arith, empty_table, Field, Item, Role}
use Names.{Values, total, one_ack, settings_count, Log, acked, IsLog, settings_append, total-append}
use Names.{settings_received, lists_accepted, log_sent, Half, HalfStep, calls, takes, loses, IsPair}
use Names.{AreUnderWay, HeaderTablesInStep}
use Rattle.h2_laws_pair.proofs.PairLogs.{other_same}
use Rattle.h2_laws_pair.proofs.BothWays.{IsDirection, to_server, to_client, ends_of, back_of}
use Rattle.h2_laws_pair.proofs.BothWays.{IsKept, each_way}
use Rattle.h2_laws_pair.proofs.CarriedItems.{way_of}
use Rattle.h2_laws_pair.proofs.TablesValues.{pairs_counted, pairs_append}
use Rattle.h2_laws_pair.proofs.TablesDecoded.{in_parts, one_decoding, lists_counted}
use Rattle.h2_laws_pair.proofs.TablesWritten.{acks_sent, sent_decodes}
use Rattle.h2_laws_pair.proofs.TablesLists.{lists_of_log}
use Rattle.h2_laws_pair.proofs.TablesRead.{HasAwaited, LogInStep, log_in_step, call_in_step}
use Rattle.h2_laws_pair.proofs.TablesRead.{opened_in_step}

-- An end sends no more acknowledgments than its peer has sent SETTINGS: so many of them, or fewer,
-- are read.
few_acks : (role : Role) (values : Values) (writer : Log) (way back received sent : List Item)
    → IsLog role values writer → writer.sent ≡ way ++ received → sent ≡ back ++ writer.received
    → total one_ack received ≤ settings_count sent
few_acks role values writer way back received sent is wrote read =
    let acks = acks_sent _ _ _ _ (log_sent role values writer is) in
    let all = ap (total one_ack) wrote in
    let settings = ap settings_count read in
    omega (arith, pairs_counted, total-append, settings_append)

-- A step of one end keeps what it has read in step, where no more acknowledgments are read than
-- SETTINGS were sent.
half_in_step : (one other : Half) {new new_other : Half} → HalfStep one other new new_other
    → HasAwaited one.log → total one_ack new.log.received ≤ settings_count one.log.sent
    → LogInStep one.log → LogInStep new.log
half_in_step one other (calls act answer typed may) before awaited is =
    call_in_step one.log act answer before is
half_in_step one other (takes step rest may none came) before awaited is =
    log_in_step one.log step none may before awaited is
half_in_step one other (loses octets rest failed came) before awaited is = is

-- The same of the reader of a pair, whose writer has sent what it reads before and after the step.
reader_in_step : (writer reader : Half) {new_writer new_reader : Half} → IsDirection writer reader
    → IsDirection new_writer new_reader → HalfStep reader writer new_reader new_writer
    → LogInStep reader.log → LogInStep new_reader.log
reader_in_step writer reader {new_writer} {new_reader} is now step =
    let ends = ends_of _ _ is in
    let way = way_of _ _ is in
    let back = way_of _ _ (back_of _ _ is) in
    let after = way_of _ _ now in
    let same = other_same _ _ step (λ log. log ≡ writer.log) refl in
    half_in_step _ _ step (few_acks ends.writer_role ends.writer_values _ way.0 back.0 _
    _ ends.writer_log way.1 back.1) (few_acks ends.writer_role ends.writer_values _ after.0 back.0
    _ _ ends.writer_log (sym (ap (λ (log : Log). log.sent) same) ∙ after.1) back.1)

-- What both ends of a pair have read is in step.
kept_in_step : IsKept (λ writer reader. LogInStep reader.log)
kept_in_step = record {
  at_first = λ role other values others. opened_in_step other others;
  by_writer = λ writer reader is now step. other_same writer reader step LogInStep;
  by_reader = reader_in_step;
}

pub in_step : (writer reader : Half) → IsDirection writer reader → LogInStep reader.log
in_step = each_way (λ writer reader. LogInStep reader.log) kept_in_step

-- Where what the reader has read is in step, so are the tables, and its lists are the first of
-- those that the writer was given.
tables_in_step_of_ends : (role : Role) (values : Values) (writer reader : Log)
    (way back : List Item) → IsLog role values writer → LogInStep reader
    → AreUnderWay writer reader way → AreUnderWay reader writer back
    → HeaderTablesInStep writer reader way
tables_in_step_of_ends role values writer reader way back is reads wrote read =
    let all = sent_decodes reader.sent writer.sent (settings_received back)
    (settings_received writer.received) (lists_accepted writer.calls) writer.encoder
    (ap settings_received read ∙ pairs_append back writer.received)
    (lists_of_log role values writer is) (log_sent role values writer is) in
    let first = empty_table 4096 in
    let lists = lists_accepted writer.calls in
    let last = writer.encoder.table in
    let parts = in_parts reader.sent 0 first way reader.received lists last (rw wrote at all.decode)
    in
    let same = one_decoding reader.sent 0 first reader.received parts.older_lists reads.read
    parts.between reader.table parts.decode_older reads.decode in
    let count : 0 + total one_ack reader.received ≡ acked reader = omega (arith, reads.awaited) in
    record {
      read = reads.read;
      under_way = parts.newer_lists;
      accepted = parts.joined ∙ ap (λ (older : List (List Field)). parts.newer_lists ++ older)
          same.same_lists;
      count = lists_counted _ 0 _ _ reads.read reader.table reads.decode;
      decode = rw (count, same.same_last) at parts.decode_newer;
    }

-- The tables of both ends of a pair are in step, whether or not the reader has failed.
pub tables_of : (writer reader : Half) (way : List Item) → IsDirection writer reader
    → AreUnderWay writer.log reader.log way → HeaderTablesInStep writer.log reader.log way
tables_of writer reader way is under_way =
    let ends = ends_of writer reader is in
    let back = way_of reader writer (back_of writer reader is) in
    tables_in_step_of_ends ends.writer_role ends.writer_values writer.log reader.log way back.0
    ends.writer_log (in_step writer reader is) under_way back.1

module _ (client_values server_values : Values) (client server : Half) (way : List Item) where
  pub tables_to_server : IsPair client_values server_values client server
      → AreUnderWay client.log server.log way → HeaderTablesInStep client.log server.log way
  tables_to_server is = tables_of client server way (to_server is)

  pub tables_to_client : IsPair client_values server_values client server
      → AreUnderWay server.log client.log way → HeaderTablesInStep server.log client.log way
  tables_to_client is = tables_of server client way (to_client is)
