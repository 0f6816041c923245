-- The log of one end: what it has read, written, reported and been asked so far; and what follows
-- from it for whoever asks.
use Rattle.std.specs.Prelude.{ℕ, ◌+◌, ◌-◌, ◌^◌, ◌==◌, nat_lt, ◌||◌, ◌&&◌, min, max, Bool, false}
use Rattle.std.specs.Prelude.{if◌then◌else◌, ℤ, List, [], ◌∷◌, length, Option, Some, None, is_some}
use Rattle.std.specs.Prelude.{option_map}
use Rattle.std.specs.List.{list_any}
use Rattle.hpack.specs.Tables.{Entries}
use Rattle.hpack.specs.Lists.{EncoderState}
use Rattle.h2_frame.specs.declared.code.Code.{Code}
use Rattle.h2_frame.specs.Frames.{Frame, Ping, GoAway}
use Rattle.h2_wire.specs.Streams.{Limits}
use Rattle.h2_block.specs.Grouping.{Item, alone, Begun}
use Rattle.h2_spec_log.specs.declared.role.Role.{Role}
use Rattle.h2_spec_log.specs.Items.{data_on, data_of, one_reset, one_ping, is_goaway, total}
use Rattle.h2_spec_log.specs.Items.{greatest_block}
use Rattle.h2_spec_log.specs.Events.{Event, flow_on, one_acked, one_pong, reported_total}
use Rattle.h2_spec_log.specs.Events.{greatest_processed}
use Rattle.h2_spec_log.specs.Acts.{Act, Answer, Turn, Release, Widen, Done}
use Rattle.h2_spec_log.specs.Settings.{is_server, value_read, settings_count, own_value}
use Rattle.h2_spec_log.specs.States.{greatest_number, State, is_active, stream_state, openings}
use Rattle.h2_spec_log.specs.States.{count_below}
use Rattle.h2_spec_log.specs.States.{least_block}
use Rattle.h2_spec_log.specs.Limits.{max_frame_size_sent}
use Rattle.h2_spec_log.specs.Windows.{send_window_of, connection_send_window, recv_window_of}
use Rattle.h2_spec_log.specs.Windows.{first_window, given_on, given_on_connection}

pub record Log : Type 0 where
  pub role : Role
  -- the octets that were used, the first one first
  pub input : List ℕ
  -- the limit of payloads that was in force as each of them was used, by its place
  pub limits : Limits
  -- the frames that they are, the first one first, up to a fault
  pub frames : List Frame
  -- the octets after the last of these frames
  pub unparsed : List ℕ
  -- the field block that has begun
  pub begun : Option Begun
  -- the items that were read, newest first, up to a fault
  pub received : List Item
  -- the items that were written, newest first, and the octets of the output, the first one first
  pub sent : List Item
  pub written : List ℕ
  -- of each item that was written, the greatest payload that was in force then, newest first
  pub payloads : List ℕ
  -- the events that were reported, newest first
  pub reported : List Event
  -- the calls, with what they answered, newest first
  pub calls : List (Act × Answer)
  -- the peer's table of fields, after the blocks that were read
  pub table : Entries
  -- the own encoder, after the limits that were read and the blocks that were written
  pub encoder : EncoderState
  -- octets of the connection's window that nobody will release and that weren't returned yet
  pub unreturned : ℕ
  -- how many octets of the output were given out
  pub given : ℕ
  -- the code with which the connection failed
  pub failed : Option Code
  -- all of that in order, newest first
  pub turns : List Turn

-- how many of the own SETTINGS the peer has acknowledged: each was reported, and acknowledgments
-- that nobody awaits change nothing
abbrev pub acked : Log → ℕ
acked log = reported_total one_acked log.reported

-- the state of a stream
abbrev pub state : Log → ℕ → State
state log i = stream_state log.role i log.received log.sent log.reported

-- Whether a stream is active. That doesn't end with the connection.
abbrev pub active : Log → ℕ → Bool
active log i = is_active log.role i log.received log.sent log.reported

-- the number for the next stream that a client opens: 1, 3, 5, .. (RFC 9113, section 5.1.1)
-- rule: 5.1.1 A client opens odd numbers, each above all before it
-- rule: 5.1.1 When the numbers of 31 bits are used up no stream is opened
unfoldable pub next_number : Log → ℕ
next_number log = if greatest_block log.sent == 0 then 1 else greatest_block log.sent + 2

-- how many streams are active
unfoldable pub active_count : Log → ℕ
active_count log = count_below (greatest_block (openings log.role log.received log.sent) + 1)
    (active log)

-- the greatest number of a peer's stream that was taken, or 0: at a client there is none
-- rule: 6.8 An own GOAWAY is sent once, with the greatest stream processed
unfoldable pub last_processed : Log → ℕ
last_processed log = if is_server log.role then greatest_processed log.reported else 0

-- how many streams of its own a client may have active: 100 before the server's SETTINGS, then the
-- server's number, and 1,000 where it has named none; never above 1,000 (section 5.1.2)
unfoldable pub allowed_by : List Item → ℕ
allowed_by received = if settings_count received == 0 then 100 else min 1000
    (value_read 3 1000 received)

-- rule: 5.1.2 A client has at most as many active streams as the server allows
abbrev pub streams_allowed : Log → ℕ
streams_allowed log = allowed_by log.received

-- how many streams a server takes: the own value 3 that the peer has acknowledged last; before any,
-- that of its first SETTINGS
-- rule: 5.1.2 A stream above the limit of active ones is REFUSED_STREAM
unfoldable pub max_streams : Log → ℕ
max_streams log = own_value 3 100 (max 1 (acked log)) log.sent

-- Whether a GOAWAY was written.
abbrev pub goaway_written : Log → Bool
goaway_written log = list_any is_goaway log.sent

-- Whether a GOAWAY was read.
abbrev pub goaway_read : Log → Bool
goaway_read log = list_any is_goaway log.received

-- the least last stream of the GOAWAYs, which doesn't grow (section 6.8); the greatest number where
-- there is none
unfoldable pub least_goaway : List Item → ℕ
least_goaway [] = greatest_number
least_goaway (alone (GoAway last code debug) ∷ items) = min last (least_goaway items)
least_goaway (_ ∷ items) = least_goaway items

-- Whether own SETTINGS await their acknowledgment.
abbrev pub settings_wait : Log → Bool
settings_wait log = nat_lt (acked log) (settings_count log.sent)

-- the octets of the newest PING that isn't an answer
-- rule: 6.7 A PING's answer that is awaited is reported, others are ignored
unfoldable pub newest_ping : List Item → List ℕ
newest_ping [] = []
newest_ping (alone (Ping false octets) ∷ items) = octets
newest_ping (_ ∷ items) = newest_ping items

-- Whether an own PING awaits its answer.
-- rule: 6.7 A PING's answer that is awaited is reported, others are ignored
abbrev pub ping_waits : Log → Bool
ping_waits log = nat_lt (reported_total one_pong log.reported) (total one_ping log.sent)

-- the output: a client's preface, and what was written of the items as they came
unfoldable pub output : Log → List ℕ
output log = log.written

-- how many octets of the output wait
unfoldable pub waiting : Log → ℕ
waiting log = length (output log) - log.given

-- how many streams this end has reset
abbrev pub resets_written : Log → ℕ
resets_written log = total one_reset log.sent

-- what was released of a stream's flow
unfoldable pub released : ℕ → List (Act × Answer) → ℕ
released i [] = 0
released i ((Release id count, Done) ∷ calls) = (if id == i then count else 0) + released i calls
released i (_ ∷ calls) = released i calls

-- by how much the window of the connection was widened
unfoldable pub widened : List (Act × Answer) → ℕ
widened [] = 0
widened ((Widen count, Done) ∷ calls) = count + widened calls
widened (_ ∷ calls) = widened calls

-- how much the peer may send on the connection before any of it is returned: the first window, and
-- what it was widened by (section 6.9.2)
-- rule: 6.9.2 (own) The window of the connection is widened by a call, for good
abbrev pub granted : Log → ℕ
granted log = first_window + widened log.calls

-- the flow of a stream that was reported and wasn't released
unfoldable pub unreleased : Log → ℕ → ℕ
unreleased log i = reported_total (flow_on i) log.reported - released i log.calls

-- what is owed on a stream: that, as long as it is active
unfoldable pub owed : Log → ℕ → ℕ
owed log i = if active log i then unreleased log i else 0

-- how much this end may send on a stream, and on the connection
abbrev pub send_window : Log → ℕ → ℤ
send_window log i = send_window_of i log.received log.sent

-- how much the peer may send on a stream
abbrev pub recv_window : Log → ℕ → ℤ
recv_window log i = recv_window_of i (acked log) log.received log.sent

-- the most octets of a payload that this end sends: the SETTINGS_MAX_FRAME_SIZE that was received
-- last, which is 16,384 at first and is never below that (section 6.5.2), and not more than the own
-- limit (own)
-- rule: 4.2 (own) Payloads of at most 65,536 octets are sent, where the peer reads them
unfoldable pub max_payload_sent_by : List Item → ℕ
max_payload_sent_by received = min max_frame_size_sent (max 16384 (value_read 5 16384 received))

abbrev pub max_payload_sent : Log → ℕ
max_payload_sent log = max_payload_sent_by log.received

-- the least active stream of this end above the last one that the peer takes, or 0: what is to be
-- reported as unprocessed
-- rule: 6.8 Own streams above GOAWAY's last are reported as unprocessed
unfoldable pub next_unprocessed : Log → ℕ
next_unprocessed log =
    if is_server log.role then 0 else least_block (λ j. active log j && nat_lt
    (least_goaway log.received) j) log.sent

-- the least active stream above a number, or 0
unfoldable pub next_active : Log → ℕ → ℕ
next_active log id = least_block (λ j. active log j && nat_lt id j)
    (openings log.role log.received log.sent)

-- The readers that a view doesn't have: the octets of a partial frame, the stream of the field block
-- that has begun, and the next active stream. After a failure they answer 0 and nothing.
abbrev pub reader_held : Log → ℕ
reader_held log = if is_some log.failed then 0 else length log.unparsed

abbrev pub reader_block_stream : Log → Option ℕ
reader_block_stream log = if is_some log.failed then None else option_map (λ begun. begun.stream)
    log.begun

abbrev pub reader_next_live : Log → ℕ → Option ℕ
reader_next_live log id = if is_some log.failed || next_active log id == 0 then None else Some
    (next_active log id)
