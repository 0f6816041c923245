-- One end as values: what it keeps in place of its log, by subject, and its view for the rules.
use Rattle.std.specs.Prelude.{ℕ, ◌+◌, ◌%◌, ◌==◌, nat_lt, ◌||◌, ◌&&◌, min, max, Bool, false}
use Rattle.std.specs.Prelude.{if◌then◌else◌}
use Rattle.std.specs.Prelude.{pos, ◌+ℤ◌, int_lt, List, [], ◌∷◌, length, Option, Some, None, is_some}
use Rattle.std.specs.Ordering.{nat_cmp}
use Rattle.std.specs.FinMap as map
use Rattle.hpack.specs.Tables.{Entries}
use Rattle.hpack.specs.Lists.{EncoderState}
use Rattle.h2_frame.specs.declared.code.Code.{Code}
use Rattle.h2_block.specs.Grouping.{Begun}
use Rattle.h2_spec_log.specs.declared.role.Role.{Role}
use Rattle.h2_spec_log.specs.Acts.{Values}
use Rattle.h2_spec_log.specs.Settings.{is_server}
use Rattle.h2_spec_log.specs.States.{State, Idle, Active, ClosedByUs, Closed}
use Rattle.h2_spec_log.specs.Windows.{greatest_window}
use Rattle.h2_spec_log.specs.Limits.{max_frame_size_sent}
use Rattle.h2_spec_log.specs.View.{StreamView, View}

-- what is kept of a stream number: an active stream, or that this end has reset it
pub data StreamEntry : Type 0 where
  active_entry : (stream : StreamView) → StreamEntry
  reset_entry : StreamEntry

-- One look-up tells the state of a number.
-- rule: 5.1 (own) What is kept of a stream is found by its number
-- rule: 5.1 (own) A change of a stream changes that stream alone
abbrev pub StreamMap : Type 0
StreamMap = map.FinMap nat_cmp StreamEntry

pub record Streams : Type 0 where
  pub entries : StreamMap
  -- how many of them are active
  pub active_count : ℕ
  -- the greatest number that was used, and the greatest of the peer's streams that was processed
  pub highest : ℕ
  pub last_processed : ℕ
  -- how many streams this end has reset
  pub resets : ℕ

-- the connection's windows; what the peer may send before any of it is returned; and the octets that
-- are still to be returned (RFC 9113, section 6.9)
pub record ConnectionWindows : Type 0 where
  pub send : ℕ
  pub recv : ℕ
  pub granted : ℕ
  pub unreturned : ℕ

-- what the peer's SETTINGS say of streams, and of frames
pub record PeerSettings : Type 0 where
  pub initial_window : ℕ
  pub max_streams : ℕ
  pub max_frame : ℕ

-- own values that are in force, and those that await their acknowledgment
pub record OwnSettings : Type 0 where
  pub in_force : Values
  pub awaited : Option Values

-- the second values, where there are any, and otherwise the first
abbrev pub values_or : Values → Option Values → Values
values_or first None = first
values_or first (Some values) = values

-- the last stream of this end's GOAWAY, and the least one of the peer's
pub record GoAways : Type 0 where
  pub sent : Option ℕ
  pub received : Option ℕ

-- what was read so far: whether the first frame has come, the field block that has begun, and the
-- peer's table
pub record ReadSoFar : Type 0 where
  pub started : Bool
  pub begun : Option Begun
  pub table : Entries

-- the own encoder, and the output that waits
pub record Output : Type 0 where
  pub encoder : EncoderState
  pub waiting : List ℕ

pub record End : Type 0 where
  pub role : Role
  -- the code with which the connection failed
  pub failed : Option Code
  pub reading : ReadSoFar
  pub streams : Streams
  pub windows : ConnectionWindows
  pub peer : PeerSettings
  pub own : OwnSettings
  pub goaway : GoAways
  -- the octets of an own PING that awaits its answer
  pub ping : Option (List ℕ)
  pub output : Output

-- the stream of an entry, if it is active
abbrev pub stream_in : Option StreamEntry → Option StreamView
stream_in None = None
stream_in (Some reset_entry) = None
stream_in (Some (active_entry stream)) = Some stream

-- the stream with a number, if it is active
abbrev pub stream_at : End → ℕ → Option StreamView
stream_at e i = stream_in (map.get e.streams.entries i)

-- what is owed on an entry, and on all of a list of entries
abbrev pub owed_entry : Option StreamEntry → ℕ
owed_entry None = 0
owed_entry (Some reset_entry) = 0
owed_entry (Some (active_entry stream)) = stream.owed

unfoldable pub owed_sum : List (ℕ × StreamEntry) → ℕ
owed_sum [] = 0
owed_sum (entry ∷ entries) = owed_entry (Some entry.1) + owed_sum entries

-- what is owed on all streams
abbrev pub owed_total : StreamMap → ℕ
owed_total streams = owed_sum (map.entries streams)

-- Whether a number is above another, where there is one.
abbrev pub is_beyond : ℕ → Option ℕ → Bool
is_beyond i None = false
is_beyond i (Some last) = nat_lt last i

-- Whether a number of the peer's is above the last stream of this end's GOAWAY.
abbrev pub is_above_goaway : End → ℕ → Bool
is_above_goaway e i = is_server e.role && is_beyond i e.goaway.sent

-- the state of a number, by its entry
abbrev pub state_by_entry : Option StreamEntry → (idle above : Bool) → State
state_by_entry (Some (active_entry stream)) idle above = Active
state_by_entry (Some reset_entry) idle above = ClosedByUs
state_by_entry None idle above = if idle then Idle else if above then ClosedByUs else Closed

abbrev pub state_at : End → ℕ → State
state_at e i = state_by_entry (map.get e.streams.entries i) (i % 2 == 0 || nat_lt e.streams.highest
    i) (is_above_goaway e i)

-- Whether another initial window brings a stream's send window above the greatest (section 6.9.2).
abbrev pub above_by_shift : (old new : ℕ) → StreamEntry → Bool
above_by_shift old new reset_entry = false
above_by_shift old new (active_entry stream) = int_lt (pos (greatest_window + old))
    (stream.send_window +ℤ pos new)

unfoldable pub any_above : (old new : ℕ) → List (ℕ × StreamEntry) → Bool
any_above old new [] = false
any_above old new (entry ∷ entries) = above_by_shift old new entry.1 || any_above old new entries

-- the number after the greatest: 1, 3, 5, .. (section 5.1.1)
abbrev pub number_after : ℕ → ℕ
number_after highest = if highest == 0 then 1 else highest + 2

-- the own values that were written last: those that await their acknowledgment, or those in force
abbrev pub values_written : OwnSettings → Values
values_written own = values_or own.in_force own.awaited

-- the most octets of a payload that may be read: the greatest of what is in force and of what
-- awaits its acknowledgment, since the peer may have applied that already (section 6.5.3)
-- rule: 4.2 The limit of an end is its greatest MAX_FRAME_SIZE of those in force
abbrev pub payload_limit_of : OwnSettings → ℕ
payload_limit_of own = max own.in_force.max_frame (values_written own).max_frame

-- an end, as the rules look at it
abbrev pub end_view : End → View
end_view e =
    record {
      role = e.role;
      failed = e.failed;
      started = e.reading.started;
      begun = e.reading.begun;
      state = state_at e;
      stream = stream_at e;
      overflows = λ initial. any_above e.peer.initial_window initial
          (map.entries e.streams.entries);
      active_count = e.streams.active_count;
      max_streams = if is_server e.role then e.own.in_force.max_streams else 0;
      streams_allowed = e.peer.max_streams;
      next_number = if is_server e.role then 0 else number_after e.streams.highest;
      last_processed = e.streams.last_processed;
      send_window = pos e.windows.send;
      recv_window = pos e.windows.recv;
      granted = e.windows.granted;
      unreturned = e.windows.unreturned;
      goaway_sent = is_some e.goaway.sent;
      goaway_received = e.goaway.received;
      settings_wait = is_some e.own.awaited;
      ping = e.ping;
      resets = e.streams.resets;
      waiting = length e.output.waiting;
      max_payload = min max_frame_size_sent (max 16384 e.peer.max_frame);
      max_frame_written = (values_written e.own).max_frame;
      encoder = e.output.encoder;
    }
