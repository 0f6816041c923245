-- An end that represents a log and hasn't failed is viewed as the log is: every observation agrees.
use Rattle.std.specs.FinMap as map
use Rattle.h2_laws_machine.proofs.Names
use Names.{◌≡◌, ℕ, ◌+◌, min, max, Bool, true, false, if◌then◌else◌, List, length, pos, Option, Some}
use Names.{None, is_some, refl, ap, sym, ◌∙◌, arith, ltb-false, ints, Item, Role, Client, Server}
use Names.{data_of, total, greatest_block, Values, is_server, value_read, settings_count}
use Names.{openings, when, window, given_on_connection, granted_on_connection, Log, acked, active}
use Names.{waiting, next_number, max_streams, active_count, last_processed, unreleased}
use Names.{max_payload_sent_by, log_view, stream_of_log, StreamView, View, End, end_view, stream_in}
use Names.{stream_at, number_after, Streams, PeerSettings, OwnSettings, RepresentsWhileUp}
use Names.{RepresentsPeer, RepresentsOwn, entry_by, when_some, own_of_all, max_frame_size_sent}
use Rattle.h2_spec_log.specs.Log.{goaway_written}
use Rattle.h2_spec_machine.specs.End.{values_written}
use Rattle.h2_laws_machine.proofs.LogCore.{Core, active_by_items, said, core, StreamsOf}

-- An entry has a stream where it is active.
entry_stream : (active was_reset : Bool) (s : StreamView)
    → stream_in (entry_by active was_reset s) ≡ when active s
entry_stream false true s = refl
entry_stream active was_reset s = refl

-- Each stream that is kept is one that is active, as the log says.
pub stream_same : (s : Streams) (c : Core) (i : ℕ) → StreamsOf s c
    → stream_in (map.get s.entries i) ≡ when (active_by_items c i) (said c i)
stream_same s c i streams =
    ap stream_in (streams.entries i) ∙ entry_stream (active_by_items c i) _ (said c i)

-- Each stream is active where the log says so, and is the stream that it says.
stream_agrees : (e : End) (log : Log) (i : ℕ) → StreamsOf e.streams (core log)
    → stream_at e i ≡ when (active log i) (stream_of_log log i)
unfolding unreleased
stream_agrees e log i streams = stream_same e.streams (core log) i streams

-- A stream is active at the end just where the log says so.
pub active_agrees : (e : End) (log : Log) (i : ℕ) → StreamsOf e.streams (core log)
    → is_some (stream_at e i) ≡ active log i
active_agrees e log i streams = ap is_some (stream_agrees e log i streams) ∙ when_some _ _

-- The number of streams that a server allows is the log's.
pub max_streams_agree : (role : Role) (ours logs : ℕ) → (is_server role ≡ true → ours ≡ logs)
    → (if is_server role then ours else 0) ≡ (if is_server role then logs else 0)
max_streams_agree Client ours logs same = refl
max_streams_agree Server ours logs same = same refl

-- The next number is the log's.
next_agrees : (role : Role) (highest : ℕ) (received sent : List Item)
    → highest ≡ greatest_block (openings role received sent)
    → (if is_server role then 0 else number_after highest)
    ≡ (if is_server role then 0 else number_after (greatest_block sent))
next_agrees Client highest received sent is = ap number_after is
next_agrees Server highest received sent is = refl

-- A window is what was given, less what was taken.
pub window_agrees : (window_left taken given : ℕ) → window_left + taken ≡ given
    → pos window_left ≡ window given taken
window_agrees window_left taken given is = omega (arith, ints)

-- The greatest payload is the log's.
pub payload_agrees : (peer : PeerSettings) (received : List Item) → RepresentsPeer peer received
    → min max_frame_size_sent (max 16384 peer.max_frame) ≡ max_payload_sent_by received
unfolding max_payload_sent_by
payload_agrees peer received is = rw is.max_frame refl

-- The greatest frame that was written last is the log's, whether it awaits its acknowledgment or
-- not.
written_agrees : (own : OwnSettings) (awaited : Option Values) (role : Role) (count : ℕ)
    (sent : List Item) → own.awaited ≡ awaited → RepresentsOwn own role count sent
    → (values_written own).max_frame ≡ value_read 5 16384 sent
written_agrees own None role count sent is own_is =
    let all = ltb-false count (settings_count sent) (sym own_is.awaits ∙ ap is_some is) in
    rw is (own_is.in_force.max_frame ∙ own_of_all 5 16384 count sent all)
written_agrees own (Some values) role count sent is own_is =
    rw is (sym (own_is.awaited values is).max_frame ∙ own_of_all 5 16384 _ _ (omega arith))

-- The log's view, with the end's own looks at states and at windows that would overflow.
abbrev pub view_beside : End → Log → View
view_beside e log =
    record (log_view log) { state = (end_view e).state; overflows = (end_view e).overflows }

-- The two views are the same.
pub views_agree : (e : End) (log : Log) → e.role ≡ log.role → e.failed ≡ log.failed
    → length e.output.waiting ≡ waiting log
    → StreamsOf e.streams (core log) → RepresentsWhileUp e log → end_view e ≡ view_beside e log
unfolding next_number active_count last_processed max_streams
views_agree e log role failed waits streams run =
    let stream = λ (k : ℕ). stream_agrees e log k streams in
    let max_streams : (if is_server e.role then e.own.in_force.max_streams else 0)
    ≡ (log_view log).max_streams = rw role (max_streams_agree _ _ _ run.own.in_force.max_streams) in
    let next : (if is_server e.role then 0 else number_after e.streams.highest)
    ≡ (log_view log).next_number =
    rw role (next_agrees log.role e.streams.highest log.received log.sent streams.highest) in
    let send = window_agrees e.windows.send (total data_of log.sent)
    (given_on_connection log.received) run.windows.send in
    let recv = window_agrees e.windows.recv (total data_of log.received)
    (granted_on_connection log.sent) run.windows.recv in
    let goaway : is_some e.goaway.sent ≡ goaway_written log = ap is_some run.goaway.last_sent
    ∙ when_some _ _ in
    λ i. record {
      role = role i;
      failed = failed i;
      started = run.started i;
      begun = run.reading.begun i;
      state = (end_view e).state;
      stream = λ k. stream k i;
      overflows = (end_view e).overflows;
      active_count = streams.active_count i;
      max_streams = max_streams i;
      streams_allowed = run.peer.max_streams i;
      next_number = next i;
      last_processed = streams.last_processed i;
      send_window = send i;
      recv_window = recv i;
      granted = run.windows.granted i;
      unreturned = run.windows.unreturned i;
      goaway_sent = goaway i;
      goaway_received = run.goaway.least_received i;
      settings_wait = run.own.awaits i;
      ping = run.ping i;
      resets = streams.resets i;
      waiting = waits i;
      max_payload = payload_agrees e.peer log.received run.peer i;
      max_frame_written = written_agrees e.own e.own.awaited log.role (acked log) log.sent refl
          run.own i;
      encoder = run.encoder i;
    }
