-- What an end makes of an item, by the state of the item's stream (RFC 9113, sections 5.1, 6.1,
-- 6.2, 6.4, 6.8 and 6.9): rules in the order in which they are tried.
-- contract: h2_core::Endpoint::take_frame
use Rattle.std.specs.Prelude.{ℕ, ◌==◌, Bool, true, false, if◌then◌else◌}
use Rattle.h2_frame.specs.declared.code.Code.{Code}
use Rattle.h2_frame.specs.declared.code.Code.TheVariants.{ProtocolError, FlowControlError}
use Rattle.h2_frame.specs.declared.code.Code.TheVariants.{StreamClosed, RefusedStream}
use Rattle.h2_frame.specs.declared.code.Code.TheVariants.{EnhanceYourCalm}
use Rattle.h2_spec_log.specs.States.{State, Idle, Active, ClosedByUs, Closed}

pub data Verdict : Type 0 where
  -- the connection fails with a code
  ConnectionFault : (code : Code) → Verdict
  -- the stream is reset with a code
  StreamFault : (code : Code) → Verdict
  -- nothing is reported
  NoEvent : Verdict
  -- it is reported, as an event
  Reported : Verdict

-- DATA on a stream in this state (sections 5.1, 6.1 and 6.9.1): on an idle stream, or a closed one,
-- it is a fault of the connection; so is what passes the connection's window; on a stream that this
-- end has reset it is ignored; after the peer's end it is a fault of the stream; what passes the
-- stream's window is a fault of the connection (own); otherwise it is reported.
-- RFC 9113, 5.1, "idle": "Receiving any frame other than HEADERS or PRIORITY on a stream in this
--   state MUST be treated as a connection error (Section 5.4.1) of type PROTOCOL_ERROR."
-- RFC 9113, 5.1, "closed": "An endpoint MAY treat receipt of any other type of frame on a closed
--   stream as a connection error (Section 5.4.1) of type STREAM_CLOSED, except as noted below."
-- RFC 9113, 6.1: "If a DATA frame is received whose stream is not in the "open" or "half-closed
--   (local)" state, the recipient MUST respond with a stream error (Section 5.4.2) of type
--   STREAM_CLOSED." Of a closed stream it is one of the connection here (own): 5.1 allows it.
-- RFC 9113, 5.1, "closed": "An endpoint MUST minimally process and then discard any frames it
--   receives in this state." "Additionally, the content of DATA frames counts toward the connection
--   flow-control window."
-- RFC 9113, 5.1, "half-closed (remote)": "If an endpoint receives additional frames, other than
--   WINDOW_UPDATE, PRIORITY, or RST_STREAM, for a stream that is in this state, it MUST respond
--   with a stream error (Section 5.4.2) of type STREAM_CLOSED."
-- RFC 9113, 6.9.1: "The sender MUST NOT send a flow-controlled frame with a length that exceeds the
--   space available in either of the flow-control windows advertised by the receiver." Section 7:
--   "The endpoint detected that its peer violated the flow-control protocol."
-- rule: 5.1 On an idle stream any but HEADERS or PRIORITY is PROTOCOL_ERROR
-- rule: 5.1 After the peer has ended a stream DATA is STREAM_CLOSED
-- rule: 5.1 On a closed stream DATA is STREAM_CLOSED (its scope: own)
-- rule: 5.1 DATA on a stream that this end has reset counts for the connection
-- rule: 5.1 What comes on a stream that this end has reset is dropped
-- rule: 6.8 Streams above the last of an own GOAWAY are ignored
-- rule: 6.9.1 DATA above the connection's window is FLOW_CONTROL_ERROR
unfoldable pub data_verdict : State → (passes_connection peer_ended passes_stream : Bool) → Verdict
data_verdict Idle passes_connection peer_ended passes_stream = ConnectionFault ProtocolError
data_verdict Closed passes_connection peer_ended passes_stream = ConnectionFault StreamClosed
data_verdict ClosedByUs passes_connection peer_ended passes_stream =
    if passes_connection then ConnectionFault FlowControlError else NoEvent
data_verdict Active passes_connection peer_ended passes_stream =
    if passes_connection then ConnectionFault FlowControlError
    else if peer_ended then StreamFault StreamClosed
    else if passes_stream then ConnectionFault FlowControlError
    else Reported

-- RST_STREAM: on an idle stream it is a fault; it closes an active one; otherwise it is ignored
-- (sections 5.1 and 6.4).
-- RFC 9113, 6.4: "If a RST_STREAM frame identifying an idle stream is received, the recipient MUST
--   treat this as a connection error (Section 5.4.1) of type PROTOCOL_ERROR."
-- RFC 9113, 5.4.2: "To avoid looping, an endpoint MUST NOT send a RST_STREAM in response to a
--   RST_STREAM frame."
-- RFC 9113, 6.4: "The RST_STREAM frame fully terminates the referenced stream and causes it to
--   enter the "closed" state."
-- RFC 9113, 5.1, "closed": "An endpoint that sends a frame with the END_STREAM flag set or a
--   RST_STREAM frame might receive a WINDOW_UPDATE or RST_STREAM frame from its peer in the time
--   before the peer receives and processes the frame that closes the stream."
-- rule: 5.1 On an idle stream any but HEADERS or PRIORITY is PROTOCOL_ERROR
-- rule: 5.4.2 RST_STREAM is not answered by RST_STREAM, nor sent twice
-- rule: 6.4 RST_STREAM on an idle stream is PROTOCOL_ERROR
-- rule: 6.4 RST_STREAM closes an active stream and is reported
-- rule: 6.4 RST_STREAM on a closed stream is ignored
unfoldable pub reset_verdict : State → Verdict
reset_verdict Idle = ConnectionFault ProtocolError
reset_verdict Active = Reported
reset_verdict ClosedByUs = NoEvent
reset_verdict Closed = NoEvent

-- WINDOW_UPDATE of the connection: no octets are a fault, and so is a window above 2^31 - 1
-- (sections 6.9 and 6.9.1).
-- RFC 9113, 6.9: "A receiver MUST treat the receipt of a WINDOW_UPDATE frame with a flow-control
--   window increment of 0 as a stream error (Section 5.4.2) of type PROTOCOL_ERROR; errors on the
--   connection flow-control window MUST be treated as a connection error (Section 5.4.1)."
-- RFC 9113, 6.9.1: "If a sender receives a WINDOW_UPDATE that causes a flow-control window to
--   exceed this maximum, it MUST terminate either the stream or the connection, as appropriate. For
--   streams, the sender sends a RST_STREAM with an error code of FLOW_CONTROL_ERROR; for the
--   connection, a GOAWAY frame with an error code of FLOW_CONTROL_ERROR is sent."
-- rule: 6.9 An increment of 0 on the connection is PROTOCOL_ERROR
-- rule: 6.9.1 The connection's window above 2^31-1 is FLOW_CONTROL_ERROR
unfoldable pub connection_update_verdict : (increment : ℕ) (above : Bool) → Verdict
connection_update_verdict increment above =
    if increment == 0 then ConnectionFault ProtocolError
    else if above then ConnectionFault FlowControlError else NoEvent

-- WINDOW_UPDATE of a stream: on an idle one it is a fault of the connection; on one that isn't
-- active it is ignored; then no octets, and a window above 2^31 - 1, are faults of the stream
-- (sections 5.1, 6.9 and 6.9.1).
-- RFC 9113, 5.1, "idle": "Receiving any frame other than HEADERS or PRIORITY on a stream in this
--   state MUST be treated as a connection error (Section 5.4.1) of type PROTOCOL_ERROR."
-- RFC 9113, 6.9: "This means that a receiver could receive a WINDOW_UPDATE frame on a stream in a
--   "half-closed (remote)" or "closed" state. A receiver MUST NOT treat this as an error (see
--   Section 5.1)."
-- RFC 9113, 6.9: "A receiver MUST treat the receipt of a WINDOW_UPDATE frame with a flow-control
--   window increment of 0 as a stream error (Section 5.4.2) of type PROTOCOL_ERROR"
-- RFC 9113, 6.9.1: "For streams, the sender sends a RST_STREAM with an error code of
--   FLOW_CONTROL_ERROR"
-- rule: 5.1 On an idle stream any but HEADERS or PRIORITY is PROTOCOL_ERROR
-- rule: 6.9 An increment of 0 on a stream is a stream error PROTOCOL_ERROR
-- rule: 6.9 WINDOW_UPDATE on an idle stream is PROTOCOL_ERROR
-- rule: 6.9 WINDOW_UPDATE on a closed stream is ignored
-- rule: 6.9 WINDOW_UPDATE after the peer's end widens the window
-- rule: 6.9.1 A stream's window above 2^31-1 is a stream error FLOW_CONTROL_ERROR
unfoldable pub update_verdict : State → (increment : ℕ) (above : Bool) → Verdict
update_verdict Idle increment above = ConnectionFault ProtocolError
update_verdict ClosedByUs increment above = NoEvent
update_verdict Closed increment above = NoEvent
update_verdict Active increment above =
    if increment == 0 then StreamFault ProtocolError
    else if above then StreamFault FlowControlError else NoEvent

-- What opens a stream, where its peer may open it: after an own GOAWAY it is closed by this end;
-- where as many streams are active as are allowed it is refused; a list that is too large is a
-- fault of the stream; otherwise it is reported (sections 5.1.2, 6.8 and 10.5.1).
-- RFC 9113, 6.8: "Once the GOAWAY is sent, the sender will ignore frames sent on streams initiated
--   by the receiver if the stream has an identifier higher than the included last stream
--   identifier."
-- RFC 9113, 5.1.2: "An endpoint that receives a HEADERS frame that causes its advertised concurrent
--   stream limit to be exceeded MUST treat this as a stream error (Section 5.4.2) of type
--   PROTOCOL_ERROR or REFUSED_STREAM."
-- RFC 9113, 10.5.1: "The field block MUST be processed to ensure a consistent connection state,
--   unless the connection is closed." The code for a list above the limit is own.
-- rule: 5.1.2 A stream above the limit of active ones is REFUSED_STREAM
-- rule: 6.8 Streams above the last of an own GOAWAY are ignored
-- rule: 10.5.1 A list above 65,536 octets is a stream error ENHANCE_YOUR_CALM
unfoldable pub opening_verdict : (left full too_large : Bool) → Verdict
opening_verdict left full too_large =
    if left then NoEvent else if full then StreamFault RefusedStream
    else if too_large then StreamFault EnhanceYourCalm else Reported

-- A field block that decodes, on a stream in this state (sections 5.1, 5.1.1 and 6.2). `opens`: the
-- number is one that the peer may open. On an idle stream that the peer may not open, or a closed
-- one, it is a fault of the connection; on a stream that this end has reset it is ignored; after
-- the peer's end, or with a list that is too large, it is a fault of the stream; otherwise it is
-- reported.
-- RFC 9113, 5.1, "idle": "If this stream is initiated by the server, as described in Section 5.1.1,
--   then receiving a HEADERS frame MUST also be treated as a connection error (Section 5.4.1) of
--   type PROTOCOL_ERROR."
-- RFC 9113, 5.1.1: "The identifier of a newly established stream MUST be numerically greater than
--   all streams that the initiating endpoint has opened or reserved." "An endpoint that receives an
--   unexpected stream identifier MUST respond with a connection error (Section 5.4.1) of type
--   PROTOCOL_ERROR."
-- RFC 9113, 5.1, "closed": "Endpoints MAY use other signals to detect that a peer has received the
--   frames that caused the stream to enter the "closed" state and treat receipt of any frame other
--   than PRIORITY as a connection error". So a block on a closed stream is one here (own).
-- RFC 9113, 5.1, "closed": "An endpoint MUST minimally process and then discard any frames it
--   receives in this state. This means updating header compression state for HEADERS and
--   PUSH_PROMISE frames."
-- RFC 9113, 5.1, "half-closed (remote)": "If an endpoint receives additional frames, other than
--   WINDOW_UPDATE, PRIORITY, or RST_STREAM, for a stream that is in this state, it MUST respond
--   with a stream error (Section 5.4.2) of type STREAM_CLOSED."
-- rule: 5.1 On an idle stream any but HEADERS or PRIORITY is PROTOCOL_ERROR
-- rule: 5.1 After the peer has ended a stream a field block is STREAM_CLOSED
-- rule: 5.1 (own) On a closed stream a field block is PROTOCOL_ERROR
-- rule: 5.1 What comes on a stream that this end has reset is dropped
-- rule: 5.1.1 A field block on an idle number not the peer's is PROTOCOL_ERROR
-- rule: 6.2 A field block on an idle odd number opens the stream at a server
-- rule: 10.5.1 A list above 65,536 octets is a stream error ENHANCE_YOUR_CALM
unfoldable pub block_verdict : State → (opens left full peer_ended too_large : Bool) → Verdict
block_verdict Idle opens left full peer_ended too_large =
    if opens then opening_verdict left full too_large else ConnectionFault ProtocolError
block_verdict Closed opens left full peer_ended too_large = ConnectionFault ProtocolError
block_verdict ClosedByUs opens left full peer_ended too_large = NoEvent
block_verdict Active opens left full peer_ended too_large =
    if peer_ended then StreamFault StreamClosed
    else if too_large then StreamFault EnhanceYourCalm else Reported

-- Whether the verdict is a fault, of the connection or of the stream.
abbrev pub is_fault : Verdict → Bool
is_fault (ConnectionFault code) = true
is_fault (StreamFault code) = true
is_fault NoEvent = false
is_fault Reported = false
