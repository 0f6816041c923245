-- When an end as values represents a log: what it keeps is what the log says.
use Rattle.std.specs.Prelude.{is_some, ◌≡◌, ℕ, ◌+◌, ◌-◌, ◌<◌, ◌≤◌, ◌==◌, nat_lt, not, max, Bool}
use Rattle.std.specs.Prelude.{true, false, if◌then◌else◌, List, [], ◌∷◌, drop, length, Option, Some}
use Rattle.std.specs.Prelude.{None}
use Rattle.std.specs.List.{list_any}
use Rattle.std.specs.FinMap as map
use Rattle.hpack.specs.Tables.{Entries}
use Rattle.h2_frame.specs.Frames.{GoAway}
use Rattle.h2_block.specs.Grouping.{Item, alone, Begun}
use Rattle.h2_spec_log.specs.declared.role.Role.{Role}
use Rattle.h2_spec_log.specs.Items.{data_of, ends, resets, one_reset, is_goaway, total}
use Rattle.h2_spec_log.specs.Items.{greatest_block}
use Rattle.h2_spec_log.specs.Events.{Event, flow_on, one_acked, reported_total, greatest_processed}
use Rattle.h2_spec_log.specs.Acts.{Values, Act, Answer}
use Rattle.h2_spec_log.specs.Settings.{is_server, value_read, settings_count, own_value}
use Rattle.h2_spec_log.specs.States.{openings, is_active, count_below, when}
use Rattle.h2_spec_log.specs.Windows.{first_window, given_on_connection, granted_on_connection}
use Rattle.h2_spec_log.specs.Windows.{send_window_of, recv_window_of}
use Rattle.h2_spec_log.specs.View.{StreamView}
use Rattle.h2_spec_log.specs.Log.{Log, acked, allowed_by, least_goaway, newest_ping, ping_waits}
use Rattle.h2_spec_log.specs.Log.{released, widened}
use Rattle.h2_spec_log.specs.Histories.{IsLog}
use Rattle.h2_spec_machine.specs.End.{StreamEntry, active_entry, reset_entry, StreamMap, Streams}
use Rattle.h2_spec_machine.specs.End.{ConnectionWindows, PeerSettings, OwnSettings, GoAways}
use Rattle.h2_spec_machine.specs.End.{ReadSoFar, End, owed_total}

-- what is kept of a number that is active, or that this end has reset, or of any other
abbrev pub entry_by : (active was_reset : Bool) → StreamView → Option StreamEntry
entry_by true was_reset stream = Some (active_entry stream)
entry_by false true stream = Some reset_entry
entry_by false false stream = None

-- the last stream of the newest GOAWAY, or 0
unfoldable pub goaway_sent_last : List Item → ℕ
goaway_sent_last [] = 0
goaway_sent_last (alone (GoAway last code debug) ∷ items) = last
goaway_sent_last (_ ∷ items) = goaway_sent_last items

-- The connection's receive window is conserved: what the peer may send, what is owed on all
-- streams, and what is unreturned, add up to 65,535 octets and what it was widened by (RFC 9113,
-- section 6.9).
abbrev pub ConservesConnectionWindow : End → Type 0
ConservesConnectionWindow e = e.windows.recv + (owed_total e.streams.entries + e.windows.unreturned)
    ≡ e.windows.granted

-- Nothing is kept of a number above the greatest that was used.
abbrev pub NoneAboveHighest : End → Type 0
NoneAboveHighest e = (i : ℕ) → e.streams.highest < i → map.get e.streams.entries i ≡ None

-- The entries are those of active numbers and of those that were reset, with the streams that are
-- said.
abbrev pub StreamsRepresent : StreamMap → (active was_reset : ℕ → Bool) → (said : ℕ → StreamView)
    → Type 0
StreamsRepresent streams active was_reset said = (i : ℕ) → map.get streams i ≡ entry_by (active i)
    (was_reset i) (said i)

-- what the items, the events and the calls of a log say of a stream
abbrev pub stream_by_items : (received sent : List Item) → List Event → List (Act × Answer) → ℕ
    → StreamView
stream_by_items received sent reported calls i =
    record {
      send_window = send_window_of i received sent;
      recv_window = recv_window_of i (reported_total one_acked reported) received sent;
      owed = reported_total (flow_on i) reported - released i calls;
      ended_in = list_any (ends i) received;
      ended_out = list_any (ends i) sent;
    }

-- Each subject of an end keeps what its log says. Each has just the parts of the log that it needs,
-- so that a step leaves it as it is where it leaves those.

-- the block that has begun, and the peer's table
pub record RepresentsReading (reading : ReadSoFar) (log_begun : Option Begun) (log_table : Entries)
    : Type 0 where
  pub begun : reading.begun ≡ log_begun
  pub table : reading.table ≡ log_table

-- the streams, and what is counted of them: `stream_of_log`, `active_count` and `last_processed` of
-- the log, and so on
pub record RepresentsStreams (streams : Streams) (role : Role) (received sent : List Item)
    (reported : List Event) (calls : List (Act × Answer)) : Type 0 where
  pub entries : StreamsRepresent streams.entries (λ i. is_active role i received sent reported)
      (λ i. list_any (resets i) sent) (stream_by_items received sent reported calls)
  pub active_count : streams.active_count ≡ count_below (greatest_block
      (openings role received sent) + 1) (λ i. is_active role i received sent reported)
  pub highest : streams.highest ≡ greatest_block (openings role received sent)
  pub last_processed : streams.last_processed ≡ (if is_server role then greatest_processed reported
      else 0)
  pub resets : streams.resets ≡ total one_reset sent

-- the connection's windows: additive, since nothing is subtracted
pub record RepresentsWindows (windows : ConnectionWindows) (received sent : List Item)
    (calls : List (Act × Answer)) (log_unreturned : ℕ) : Type 0 where
  pub send : windows.send + total data_of sent ≡ given_on_connection received
  pub recv : windows.recv + total data_of received ≡ granted_on_connection sent
  pub granted : windows.granted ≡ first_window + widened calls
  pub unreturned : windows.unreturned ≡ log_unreturned

-- the peer's settings
pub record RepresentsPeer (peer : PeerSettings) (received : List Item) : Type 0 where
  pub initial_window : peer.initial_window ≡ value_read 4 first_window received
  pub max_streams : peer.max_streams ≡ allowed_by received
  pub max_frame : peer.max_frame ≡ value_read 5 16384 received

-- These values are in force where so many own SETTINGS were acknowledged. A client's peer opens no
-- streams.
pub record AreInForce (values : Values) (role : Role) (count : ℕ) (sent : List Item) : Type 0 where
  pub table_limit : values.table_limit ≡ own_value 1 4096 count sent
  pub initial_window : values.initial_window ≡ own_value 4 first_window count sent
  pub max_streams : is_server role ≡ true → values.max_streams ≡ own_value 3 100 (max 1 count) sent
  pub max_frame : values.max_frame ≡ own_value 5 16384 count sent

-- These are the values of the newest own SETTINGS.
pub record AwaitsValues (role : Role) (sent : List Item) (values : Values) : Type 0 where
  pub table_limit : own_value 1 4096 (settings_count sent) sent ≡ values.table_limit
  pub initial_window : own_value 4 first_window (settings_count sent) sent ≡ values.initial_window
  pub max_streams : is_server role ≡ true → own_value 3 100 (settings_count sent) sent
      ≡ values.max_streams
  pub max_frame : own_value 5 16384 (settings_count sent) sent ≡ values.max_frame

-- own SETTINGS, of which so many were acknowledged: the values in force, and those that will be
-- once the next acknowledgment has come
pub record RepresentsOwn (own : OwnSettings) (role : Role) (count : ℕ) (sent : List Item) : Type 0
  where
    pub in_force : AreInForce own.in_force role count sent
    pub awaits : is_some own.awaited ≡ nat_lt count (settings_count sent)
    pub awaited : (values : Values) → own.awaited ≡ Some values → AwaitsValues role sent values

-- the last stream of the own GOAWAY, and the least one of the peer's
pub record RepresentsGoAways (goaway : GoAways) (received sent : List Item) : Type 0 where
  pub last_sent : goaway.sent ≡ when (list_any is_goaway sent) (goaway_sent_last sent)
  pub least_received : goaway.received ≡ when (list_any is_goaway received) (least_goaway received)

-- the octets that wait, of those that were written: those that were not given out
pub record RepresentsOutput (octets : List ℕ) (log_given : ℕ) (written : List ℕ) : Type 0 where
  pub waiting : octets ≡ drop log_given written
  pub given : log_given ≤ length written

-- An end that hasn't failed keeps what its log says of what comes, and may be sent, next.
pub record RepresentsWhileUp (e : End) (log : Log) : Type 0 where
  pub started : e.reading.started ≡ not (length log.frames == 0)
  pub reading : RepresentsReading e.reading log.begun log.table
  pub encoder : e.output.encoder ≡ log.encoder
  pub windows : RepresentsWindows e.windows log.received log.sent log.calls log.unreturned
  pub peer : RepresentsPeer e.peer log.received
  pub own : RepresentsOwn e.own log.role (acked log) log.sent
  pub goaway : RepresentsGoAways e.goaway log.received log.sent
  pub ping : e.ping ≡ when (ping_waits log) (newest_ping log.sent)

-- What waits is what the log has written and not given out, and the streams are those of the log,
-- whether the connection has failed or not. The rest is said as long as it has not.
pub record Represents (values : Values) (e : End) (log : Log) : Type 0 where
  pub came : IsLog e.role values log
  pub role : e.role ≡ log.role
  pub failed : e.failed ≡ log.failed
  pub output : RepresentsOutput e.output.waiting log.given log.written
  pub streams : RepresentsStreams e.streams log.role log.received log.sent log.reported log.calls
  pub running : e.failed ≡ None → RepresentsWhileUp e log
  pub whole : ConservesConnectionWindow e
  pub used : NoneAboveHighest e
