-- What an end of a pair has heard on a stream is a prefix of what the other one was given for it.
use Rattle.h2_laws_end.proofs.ReadingCalls.{log_read}
use Rattle.h2_laws_pair.proofs.Names
use Names.{◌≡◌, ℕ, List, [], ◌∷◌, ◌++◌, length, Option, None, refl, sym, ap, ◌∙◌, arith}
use Names.{append_assoc, length-append, Field, Code, InternalError, Frame, wire_fault_code, Item}
use Names.{Role, Values, Log, opened, with_call, used, with_frame, with_sent, with_failure}
use Names.{took_none, Decoded, IsLog, IsDecodedFor, grows_call, lists_accepted, log_sent}
use Names.{reads_fails, reads_unprocessed, uses_part, ends_frame, meets_fault, runs_out_of_memory}
use Names.{reports_unprocessed, is_called, MachineStep, MayStep, log_after, Half, HalfStep, calls}
use Names.{takes, loses, IsPair, AreUnderWay, block_count, Token, tokens_sent, tokens_written}
use Names.{tokens_heard, IsPrefixOfTokens}
use Rattle.h2_laws_pair.proofs.StepsOfLogs.{IsNoCall}
use Rattle.h2_laws_pair.proofs.BothWays.{IsDirection, to_server, to_client, ends_of, IsKept}
use Rattle.h2_laws_pair.proofs.BothWays.{each_way}
use Rattle.h2_laws_pair.proofs.CarriedItems.{way_of}
use Rattle.h2_laws_pair.proofs.TablesOfPairs.{tables_of}
use Rattle.h2_laws_pair.proofs.HeardTokens.{tokens_split, prefix_more}
use Rattle.h2_laws_pair.proofs.HeardSent.{tokens_carried}
use Rattle.h2_laws_pair.proofs.HeardReads.{LogHeard, heard_prefix, lists_after}
use Rattle.h2_laws_pair.proofs.HeardSteps.{heard_grows, heard_failure, heard_unprocessed, no_item}
use Rattle.h2_laws_pair.proofs.HeardSteps.{one_item, frame_heard, heard_used, opened_heard}
use Rattle.h2_laws_pair.proofs.HeardCalls.{step_calls, lists_more}
use Rattle.h2_laws_log.proofs.PartsStay.{call_calls}
use Rattle.h2_laws_pair.proofs.HeardLists.{next_lists, lists_count, blocks_joined, blocks_of_lists}

-- The lists that the reader's blocks decoded to are the first of those that the writer was given;
-- and what the reader has heard is of them.
pub record IsHeardBy (writer reader : Log) : Type 0 where
  pub lists : List (List Field)
  pub later : List (List Field)
  pub accepted : lists_accepted writer.calls ≡ later ++ lists
  pub count : length lists ≡ block_count reader.received
  pub heard : (i : ℕ) → LogHeard i reader lists

-- After a step of the writer.
more_accepted : (writer reader : Log) (new : Log) (more : List (List Field))
    → lists_accepted new.calls ≡ more ++ lists_accepted writer.calls → IsHeardBy writer reader
    → IsHeardBy new reader
more_accepted writer reader new more accepted is = record {
  lists = is.lists;
  later = more ++ is.later;
  accepted = rw (accepted, is.accepted, append_assoc) refl;
  count = is.count;
  heard = is.heard;
}

writer_heard : (writer reader : Half) {new_writer new_reader : Half}
    → HalfStep writer reader new_writer new_reader → IsHeardBy writer.log reader.log
    → IsHeardBy new_writer.log new_reader.log
writer_heard writer reader (calls act answer typed may) is =
    let more = lists_more act answer writer.log.calls in
    more_accepted _ _ _ more.0 (ap lists_accepted (call_calls writer.log act answer) ∙ more.1) is
writer_heard writer reader (takes step rest may none came) is =
    more_accepted _ _ _ [] (ap lists_accepted (step_calls writer.log step none)) is
writer_heard writer reader (loses octets rest failed came) is = is

-- After a step of the reader with which no item more is read.
none_read : (writer reader new : Log) (is : IsHeardBy writer reader)
    → new.received ≡ reader.received → ((i : ℕ) → LogHeard i new is.lists) → IsHeardBy writer new
none_read writer reader new is same heard = record {
  lists = is.lists;
  later = is.later;
  accepted = is.accepted;
  count = is.count ∙ sym (ap block_count same);
  heard = heard;
}

-- After a frame.
frame_read : (writer reader : Half) (octets : List ℕ) (decoded : Option Decoded) (frame : Frame)
    (way : List Item) → IsDirection writer reader → reader.log.failed ≡ None
    → IsDecodedFor reader.log decoded frame
    → AreUnderWay writer.log (with_frame (used reader.log octets []) decoded frame) way
    → IsHeardBy writer.log reader.log
    → IsHeardBy writer.log (with_frame (used reader.log octets []) decoded frame)
frame_read writer reader octets decoded frame way is up sees under_way before =
    let low = (log_read _ _ reader.log (ends_of writer reader is).reader_log).low up in
    elim (frame_heard reader.log octets decoded frame before.lists low before.heard) [
      | no_item same heard ↦ none_read writer.log reader.log _ before same heard
      | one_item item completed came heard ↦
          let line : writer.log.sent ≡ (way ++ item ∷ []) ++ reader.log.received = rw
          (under_way, came, append_assoc) refl in
          let next = next_lists writer.log reader.log way item decoded before.lists before.later
          before.accepted before.count (tables_of _ _ _ is line) (rw completed at sees) in
          record {
            lists = lists_after decoded item before.lists;
            later = next.0;
            accepted = next.1;
            count = lists_count decoded item reader.log.received before.lists before.count ∙ sym
                (ap block_count came);
            heard = heard;
          }
    ]

-- After octets with which no frame ends, and after a failure.
used_read : (writer reader : Half) (octets unparsed : List ℕ) → IsHeardBy writer.log reader.log
    → IsHeardBy writer.log (used reader.log octets unparsed)
unfolding used
used_read writer reader octets unparsed is =
    none_read _ _ _ is refl (λ i. heard_used i reader.log octets unparsed is.lists (is.heard i))

failed_read : (writer reader : Half) (octets : List ℕ) (code : Code) (last : ℕ)
    → IsHeardBy writer.log reader.log
    → IsHeardBy writer.log (with_failure code last (used reader.log octets []))
failed_read writer reader octets code last is =
    let now = used_read writer reader octets [] is in
    none_read _ _ _ now (reads_fails code last (used reader.log octets [])).received
    (λ i. heard_failure i code last (used reader.log octets []) now.lists (now.heard i))

-- After any step that is no call.
step_read : (writer reader : Half) (step : MachineStep) (way : List Item)
    → IsDirection writer reader → IsNoCall step → MayStep reader.log step
    → AreUnderWay writer.log (log_after reader.log step) way → IsHeardBy writer.log reader.log
    → IsHeardBy writer.log (log_after reader.log step)
unfolding MayStep log_after
step_read writer reader (uses_part octets unparsed) way is none may under_way before =
    used_read writer reader octets unparsed before
step_read writer reader (ends_frame octets frame decoded) way is none (up, read, sees) under_way
    before = frame_read writer reader octets decoded frame way is up.up sees under_way before
step_read writer reader (meets_fault octets fault) way is none may under_way before =
    failed_read writer reader octets (wire_fault_code fault) _ before
step_read writer reader (runs_out_of_memory octets) way is none may under_way before =
    failed_read writer reader octets InternalError _ before
step_read writer reader reports_unprocessed way is none may under_way before =
    none_read _ _ (took_none reader.log) before (reads_unprocessed reader.log).received
    (λ i. heard_unprocessed i reader.log before.lists (before.heard i))
step_read writer reader (is_called act answer) way is none may under_way before =
    absurd (none act answer refl)

-- After a step of the reader.
reader_heard : (writer reader : Half) {new_writer new_reader : Half} → IsDirection writer reader
    → IsDirection new_writer new_reader → HalfStep reader writer new_reader new_writer
    → IsHeardBy writer.log reader.log → IsHeardBy new_writer.log new_reader.log
reader_heard writer reader is now (calls act answer typed may) before =
    let grows = grows_call reader.log act answer in
    none_read writer.log reader.log (with_call reader.log act answer) before grows.received
    (λ i. heard_grows i reader.log (with_call reader.log act answer) before.lists grows
    (before.heard i))
reader_heard writer reader is now (takes step rest may none came) before =
    let way = way_of writer (record reader { log = log_after reader.log step; incoming = rest })
    now in
    step_read writer reader step way.0 is none may way.1 before
reader_heard writer reader is now (loses octets rest failed came) before = before

-- New ends.
opened_by : (role other : Role) (values others : Values)
    → IsHeardBy (opened role values) (opened other others)
unfolding opened with_sent lists_accepted block_count
opened_by role other values others = record {
  lists = [];
  later = [];
  accepted = refl;
  count = refl;
  heard = λ i. opened_heard i other others;
}

-- In each direction of every pair.
heard_is_kept : IsKept (λ writer reader. IsHeardBy writer.log reader.log)
heard_is_kept = record {
  at_first = opened_by;
  by_writer = λ writer reader is now step. writer_heard writer reader step;
  by_reader = reader_heard;
}

pub is_heard : (writer reader : Half) → IsDirection writer reader → IsHeardBy writer.log reader.log
is_heard = each_way (λ writer reader. IsHeardBy writer.log reader.log) heard_is_kept

-- What was given to the writer is what the reader's items carry, and then what those under way do.
pub given_in_order : (i : ℕ) (role : Role) (values : Values) (writer reader : Log)
    (way : List Item) → IsLog role values writer → AreUnderWay writer reader way
    → (is : IsHeardBy writer reader) → tokens_sent i writer.calls
    ≡ tokens_written i reader.received is.lists ++ tokens_written i way is.later
given_in_order i role values writer reader way log under_way is =
    let blocks : length (lists_accepted writer.calls) ≡ block_count writer.sent = blocks_of_lists _
    _ _ writer.encoder (log_sent role values writer log) in
    let all : length (is.later ++ is.lists) ≡ block_count (way ++ reader.received) = rw
    (is.accepted, under_way) at blocks in
    let later : length is.later ≡ block_count way = omega
    (arith, length-append is.later is.lists, blocks_joined way reader.received) in
    rw (tokens_carried i role values writer log, under_way, is.accepted)
    (tokens_split i way reader.received is.later is.lists later)

-- So what was heard is a prefix of what was given.
hears : (writer reader : Half) (i : ℕ) → IsDirection writer reader
    → IsPrefixOfTokens (tokens_heard i reader.log.reported) (tokens_sent i writer.log.calls)
hears writer reader i is =
    let way = way_of writer reader is in
    let heard = is_heard writer reader is in
    rw (given_in_order i _ _ writer.log reader.log way.0 (ends_of writer reader is).writer_log
    way.1 heard) (prefix_more _ _ (tokens_written i way.0 heard.later)
    (heard_prefix reader.log.role i reader.log.received reader.log.sent reader.log.reported
    heard.lists (heard.heard i)))

-- At the server, and at the client.
pub server_hears : (client_values server_values : Values) (client server : Half) (i : ℕ)
    → IsPair client_values server_values client server
    → IsPrefixOfTokens (tokens_heard i server.log.reported) (tokens_sent i client.log.calls)
server_hears client_values server_values client server i is = hears client server i (to_server is)

pub client_hears : (client_values server_values : Values) (client server : Half) (i : ℕ)
    → IsPair client_values server_values client server
    → IsPrefixOfTokens (tokens_heard i client.log.reported) (tokens_sent i server.log.calls)
client_hears client_values server_values client server i is = hears server client i (to_client is)

-- What is heard is a prefix of the message that the tokens sent begin.
pub begins_message : (heard sent waiting whole : List Token) → IsPrefixOfTokens heard sent
    → whole ≡ sent ++ waiting → IsPrefixOfTokens heard whole
begins_message heard sent waiting whole (rest, is) joined =
    (rest ++ waiting, rw (joined, is, append_assoc) refl)
