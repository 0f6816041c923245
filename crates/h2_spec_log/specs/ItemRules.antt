-- The verdict on an item that comes next, by what an end has so far (RFC 9113, sections 3.4, 5.1, 6
-- and 10.5).
-- contract: h2_core::Endpoint::take_frame
use Rattle.std.specs.Prelude.{ℕ, ◌+◌, ◌%◌, ◌==◌, nat_lt, nat_le, not, ◌||◌, ◌&&◌, Bool, true, false}
use Rattle.std.specs.Prelude.{if◌then◌else◌, ℤ, pos, ◌+ℤ◌, int_lt, List, [], ◌∷◌, ◌++◌, length}
use Rattle.std.specs.Prelude.{Option, Some, None}
use Rattle.hpack.specs.declared.types.field.Field.{Field}
use Rattle.hpack.specs.Tables.{Entries}
use Rattle.hpack.specs.Lists.{list_size}
use Rattle.hpack.specs.Choice.{same_octets}
use Rattle.h2_frame.specs.declared.code.Code.{Code}
use Rattle.h2_frame.specs.declared.code.Code.TheVariants.{ProtocolError, FlowControlError}
use Rattle.h2_frame.specs.declared.code.Code.TheVariants.{CompressionError, EnhanceYourCalm}
use Rattle.h2_frame.specs.Frames.{Frame, Data, Headers, Priority, Reset, Settings, Ping, GoAway}
use Rattle.h2_frame.specs.Frames.{WindowUpdate, Continuation, Unknown}
use Rattle.h2_frame.specs.Encoding.{payload_of}
use Rattle.h2_block.specs.declared.fault.BlockFault.{BlockFault}
use Rattle.h2_block.specs.Grouping.{Item, alone, block, Begun, next_fault}
use Rattle.h2_block.specs.Gather.{block_fault_code}
use Rattle.h2_spec_log.specs.declared.role.Role.{Role}
use Rattle.h2_spec_log.specs.Items.{stream_of_item, encoding_of_items}
use Rattle.h2_spec_log.specs.Settings.{is_server, peer_of, value_fault}
use Rattle.h2_spec_log.specs.States.{State, Idle, Active, ClosedByUs, Closed}
use Rattle.h2_spec_log.specs.Windows.{greatest_window}
use Rattle.h2_spec_log.specs.Limits.{max_list, max_output, max_resets, max_frame_size_sent}
use Rattle.h2_spec_log.specs.View.{StreamView, View, ended_in}
use Rattle.h2_frame.specs.Codes.{code_number}
use Rattle.h2_spec_log.specs.Verdicts.{Verdict, ConnectionFault, StreamFault, NoEvent, Reported}
use Rattle.h2_spec_log.specs.Verdicts.{data_verdict, reset_verdict, connection_update_verdict}
use Rattle.h2_spec_log.specs.Verdicts.{update_verdict, block_verdict}

-- what a field block decodes to: its fields, and the table after it
pub record Decoded : Type 0 where
  pub fields : List Field
  pub after : Entries

-- Whether DATA of so many octets exceeds a window. DATA of no octets exceeds none (section 6.9.1).
-- rule: 6.9.1 DATA of no octets is within any window
abbrev pub exceeds : ℕ → ℤ → Bool
exceeds count window = nat_lt 0 count && int_lt window (pos count)

-- Whether DATA of so many octets exceeds the window of its stream, where that is active.
-- rule: 6.9.1 DATA above its stream's window is FLOW_CONTROL_ERROR (scope: own)
abbrev pub exceeds_stream : ℕ → Option StreamView → Bool
exceeds_stream count None = false
exceeds_stream count (Some stream) = exceeds count stream.recv_window

-- Whether an increment brings a window above the greatest (section 6.9.1).
-- rule: 6.9.1 The connection's window above 2^31-1 is FLOW_CONTROL_ERROR
-- rule: 6.9.1 A stream's window above 2^31-1 is a stream error FLOW_CONTROL_ERROR
abbrev pub overflows_by : ℕ → ℤ → Bool
overflows_by increment window = int_lt (pos greatest_window) (window +ℤ pos increment)

-- Whether an increment brings the window of a stream above the greatest, where that is active.
-- rule: 6.9.1 A stream's window above 2^31-1 is a stream error FLOW_CONTROL_ERROR
abbrev pub overflows_stream : ℕ → Option StreamView → Bool
overflows_stream increment None = false
overflows_stream increment (Some stream) = overflows_by increment stream.send_window

-- Whether the number is one that the peer may open: odd, at a server (section 5.1.1).
-- rule: 5.1.1 A field block on an idle number not the peer's is PROTOCOL_ERROR
abbrev pub peer_opens : View → ℕ → Bool
peer_opens view id = is_server view.role && id % 2 == 1

-- Whether as many streams are active as this end allows (section 5.1.2).
-- rule: 5.1.2 A stream above the limit of active ones is REFUSED_STREAM
abbrev pub is_at_capacity : View → Bool
is_at_capacity view = nat_le view.max_streams view.active_count

-- the fault of a pair of SETTINGS, or, where it has none, of those that follow it
-- rule: 6.5.3 Settings apply in order: the first fault decides, the last value counts
abbrev pub first_fault : Option Code → (overflows : Bool) → Option Code → Option Code
first_fault (Some code) overflows following = Some code
first_fault None overflows following = if overflows then Some FlowControlError else following

-- the fault of pairs of SETTINGS: that of the first pair that has one. A value can be at fault
-- itself, or be an initial window that brings some stream's window above the greatest (sections
-- 6.5.2 and 6.9.2).
-- rule: 6.5.3 Settings apply in order: the first fault decides, the last value counts
-- rule: 6.9.2 A shift of a window above 2^31-1 is FLOW_CONTROL_ERROR
unfoldable pub settings_fault : View → List (ℕ × ℕ) → Option Code
settings_fault view [] = None
settings_fault view (pair ∷ pairs) =
    first_fault (value_fault (peer_of view.role) pair) (pair.0 == 4 && view.overflows pair.1)
    (settings_fault view pairs)

-- rule: 5.4.1 A connection error is answered by GOAWAY, and nothing is sent after
abbrev pub verdict_of_fault : Option Code → Verdict
verdict_of_fault None = NoEvent
verdict_of_fault (Some code) = ConnectionFault code

-- the verdict on a field block, by what it decodes to; a block that doesn't decode is a
-- COMPRESSION_ERROR (section 4.3)
-- rule: 4.3 A block that does not decode is COMPRESSION_ERROR, of the connection
abbrev pub verdict_of_block : View → ℕ → Option Decoded → Verdict
verdict_of_block view id None = ConnectionFault CompressionError
verdict_of_block view id (Some decoded) =
    block_verdict (view.state id) (peer_opens view id) view.goaway_sent (is_at_capacity view)
    (ended_in (view.stream id))
    (nat_lt max_list (list_size decoded.fields))

-- whether these are the octets of the PING that awaits its answer
-- rule: 6.7 A PING's answer that is awaited is reported, others are ignored
abbrev pub is_awaited_ping : List ℕ → Option (List ℕ) → Bool
is_awaited_ping octets None = false
is_awaited_ping octets (Some awaited) = same_octets octets awaited

-- the verdict on an item, before the limits on output and resets
-- rule: 5.5 A frame of an unknown type passes as it is, and an end ignores it
-- rule: 5.1 PRIORITY is ignored in every state
-- rule: 6.5.3 An acknowledgment that is awaited is reported, others are ignored
-- rule: 6.7 A PING's answer that is awaited is reported, others are ignored
-- rule: 7 A received code is any number of 32 bits, and an unknown one does nothing
unfoldable pub verdict_by_rules : View → Option Decoded → Item → Verdict
verdict_by_rules view decoded (block stream end octets) = verdict_of_block view stream decoded
verdict_by_rules view decoded (alone (Data stream end octets pad)) =
    data_verdict (view.state stream) (exceeds (length (payload_of
    (Data stream end octets pad))) view.recv_window)
    (ended_in (view.stream stream)) (exceeds_stream (length (payload_of
    (Data stream end octets pad))) (view.stream stream))
verdict_by_rules view decoded (alone (Headers stream end whole fragment pad priority)) = NoEvent
verdict_by_rules view decoded (alone (Priority stream octets)) = NoEvent
verdict_by_rules view decoded (alone (Reset stream code)) = reset_verdict (view.state stream)
verdict_by_rules view decoded (alone (Settings false pairs)) = verdict_of_fault
    (settings_fault view pairs)
verdict_by_rules view decoded (alone
    (Settings true pairs)) = if view.settings_wait then Reported else NoEvent
verdict_by_rules view decoded (alone (Ping false octets)) = NoEvent
verdict_by_rules view decoded (alone
    (Ping true octets)) = if is_awaited_ping octets view.ping then Reported else NoEvent
verdict_by_rules view decoded (alone (GoAway last code debug)) = Reported
verdict_by_rules view decoded (alone (WindowUpdate stream increment)) =
    if stream == 0 then connection_update_verdict increment
    (overflows_by increment view.send_window)
    else update_verdict (view.state stream) increment (overflows_stream increment
    (view.stream stream))
verdict_by_rules view decoded (alone (Continuation stream whole fragment)) = NoEvent
verdict_by_rules view decoded (alone (Unknown kind flags stream payload)) = NoEvent

-- what is replied to an item with this verdict: RST_STREAM to a stream's fault, an acknowledgment
-- to SETTINGS and to PING
-- rule: 5.4.2 A stream error is answered by RST_STREAM with its code, and reported
-- rule: 6.5.3 SETTINGS are acknowledged before anything else is sent
-- rule: 6.7 PING is answered with its octets and ACK, and an answer is not answered
unfoldable pub replies_to : Verdict → Item → List Item
replies_to (ConnectionFault code) item = []
replies_to (StreamFault code) item = alone (Reset (stream_of_item item) (code_number code)) ∷ []
replies_to NoEvent (alone (Settings false pairs)) = alone (Settings true []) ∷ []
replies_to NoEvent (alone (Ping false octets)) = alone (Ping true octets) ∷ []
replies_to NoEvent item = []
replies_to Reported item = []

-- Whether the verdict resets a stream.
abbrev pub is_stream_fault : Verdict → Bool
is_stream_fault (ConnectionFault code) = false
is_stream_fault (StreamFault code) = true
is_stream_fault NoEvent = false
is_stream_fault Reported = false

-- The limits (own; section 10.5): the 1,001st reset ends the connection instead, and so does a
-- reply of so many octets that would bring the waiting output above its limit.
-- rule: 10.5 (own) Replies above 262,144 waiting octets are ENHANCE_YOUR_CALM
unfoldable pub over_limits : (resets waiting size : ℕ) → Verdict → Verdict
over_limits resets waiting size verdict =
    if (is_stream_fault verdict && nat_le max_resets resets) || (nat_lt 0 size
    && nat_lt max_output (waiting + size)) then
    ConnectionFault EnhanceYourCalm
    else verdict

-- the verdict on an item that comes next. Replies are no field blocks, so that their octets are the
-- same whatever the greatest payload is.
-- rule: 10.5 (own) Replies above 262,144 waiting octets are ENHANCE_YOUR_CALM
unfoldable pub verdict_of : View → Option Decoded → Item → Verdict
verdict_of view decoded item =
    let verdict = verdict_by_rules view decoded item in
    let replies = encoding_of_items max_frame_size_sent (replies_to verdict item) in
    over_limits view.resets view.waiting (length replies) verdict

abbrev pub is_idle : State → Bool
is_idle Idle = true
is_idle Active = false
is_idle ClosedByUs = false
is_idle Closed = false

-- the number of the stream that an item opens, or 0: an idle number that the peer may open, where
-- no GOAWAY was sent and the stream isn't refused
-- rule: 6.2 A field block on an idle odd number opens the stream at a server
unfoldable pub opened_by : View → Option Decoded → Item → ℕ
opened_by view (Some decoded) (block stream end octets) =
    if is_idle (view.state stream) && peer_opens view stream && not view.goaway_sent && not
    (is_at_capacity view) then stream else 0
opened_by view decoded item = 0

-- What a frame makes of the field block that has begun, or of none: a fault of the connection, a
-- block that isn't complete yet, or an item.
pub data FrameStep : Type 0 where
  fails_with : (code : Code) → FrameStep
  begins_block : Begun → FrameStep
  completes : Item → FrameStep

-- Whether a frame may come first: SETTINGS that are no acknowledgment (section 3.4).
-- rule: 3.4 A first frame other than SETTINGS without ACK is PROTOCOL_ERROR
unfoldable pub may_be_first : Frame → Bool
may_be_first (Settings false pairs) = true
may_be_first _ = false

-- a frame that groups (section 6.10)
unfoldable pub grouped : Option Begun → Frame → FrameStep
grouped None (Headers stream end true fragment pad priority) = completes (block stream end fragment)
grouped None (Headers stream end false fragment pad priority) =
    begins_block (record { stream = stream; end = end; octets = fragment })
grouped (Some begun) (Continuation stream true fragment) = completes (block begun.stream begun.end
    (begun.octets ++ fragment))
grouped (Some begun) (Continuation stream false fragment) = begins_block
    (record begun { octets = begun.octets ++ fragment })
grouped begun frame = completes (alone frame)

unfoldable pub grouping_step : Option Begun → Frame → Option BlockFault → FrameStep
grouping_step begun frame (Some fault) = fails_with (block_fault_code fault)
grouping_step begun frame None = grouped begun frame

-- a frame that comes next: the first must be SETTINGS; then blocks are gathered
-- rule: 3.4 A first frame other than SETTINGS without ACK is PROTOCOL_ERROR
unfoldable pub frame_step : View → Frame → FrameStep
frame_step view frame =
    if not view.started && not (may_be_first frame) then fails_with ProtocolError
    else grouping_step view.begun frame (next_fault view.begun frame)
