-- An end's log, as the rules look at it.
use Rattle.std.specs.Prelude.{ℕ, ◌+◌, ◌&&◌, not, ◌==◌, Bool, if◌then◌else◌, length}
use Rattle.std.specs.List.{list_any}
use Rattle.h2_spec_log.specs.Items.{data_on, data_of, increment_on, ends, total}
use Rattle.h2_spec_log.specs.Settings.{is_server, value_read}
use Rattle.h2_spec_log.specs.States.{openings, any_block, when}
use Rattle.h2_spec_log.specs.Windows.{connection_send_window, connection_recv_window}
use Rattle.h2_spec_log.specs.Windows.{is_above_greatest}
use Rattle.h2_spec_log.specs.Log.{Log, state, active, next_number, active_count, last_processed}
use Rattle.h2_spec_log.specs.Log.{streams_allowed, max_streams, goaway_written, goaway_read}
use Rattle.h2_spec_log.specs.Log.{least_goaway, settings_wait, newest_ping, ping_waits, waiting}
use Rattle.h2_spec_log.specs.Log.{resets_written, unreleased, send_window, recv_window}
use Rattle.h2_spec_log.specs.Log.{max_payload_sent, granted}
use Rattle.h2_spec_log.specs.View.{StreamView, View}

-- what a log says of a stream
abbrev pub stream_of_log : Log → ℕ → StreamView
stream_of_log log i =
    record {
      send_window = send_window log i;
      recv_window = recv_window log i;
      owed = unreleased log i;
      ended_in = list_any (ends i) log.received;
      ended_out = list_any (ends i) log.sent;
    }

-- Whether an initial window brings the send window of an active stream above the greatest (RFC
-- 9113, section 6.9.2).
-- rule: 6.9.2 A shift of a window above 2^31-1 is FLOW_CONTROL_ERROR
unfoldable pub overflows : Log → ℕ → Bool
overflows log initial =
    any_block
    (λ j. active log j && is_above_greatest (initial + total (increment_on j) log.received) (total
    (data_on j) log.sent))
    (openings log.role log.received log.sent)

abbrev pub log_view : Log → View
log_view log =
    record {
      role = log.role;
      failed = log.failed;
      started = not (length log.frames == 0);
      begun = log.begun;
      state = state log;
      stream = λ i. when (active log i) (stream_of_log log i);
      overflows = overflows log;
      active_count = active_count log;
      max_streams = if is_server log.role then max_streams log else 0;
      streams_allowed = streams_allowed log;
      next_number = if is_server log.role then 0 else next_number log;
      last_processed = last_processed log;
      send_window = connection_send_window log.received log.sent;
      recv_window = connection_recv_window log.received log.sent;
      granted = granted log;
      unreturned = log.unreturned;
      goaway_sent = goaway_written log;
      goaway_received = when (goaway_read log) (least_goaway log.received);
      settings_wait = settings_wait log;
      ping = when (ping_waits log) (newest_ping log.sent);
      resets = resets_written log;
      waiting = waiting log;
      max_payload = max_payload_sent log;
      max_frame_written = value_read 5 16384 log.sent;
      encoder = log.encoder;
    }
