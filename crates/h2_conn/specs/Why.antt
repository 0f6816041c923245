-- Why a connection has failed: the rule that its peer has broken, the limit that was reached, or
-- what else has ended it (RFC 9113, section 5.4.1).
-- contract: h2_conn::Conn::why
use Rattle.std.specs.Prelude.{◌≡◌, ℕ, ◌==◌, not, nat_le, ◌&&◌, Bool}
use Rattle.std.specs.Prelude.{if◌then◌else◌, List, [], ◌∷◌, length, Option, Some, None}
use Rattle.h2_frame.specs.declared.code.Code.{Code}
use Rattle.h2_frame.specs.declared.code.Code.TheVariants.{ProtocolError, FlowControlError}
use Rattle.h2_frame.specs.declared.code.Code.TheVariants.{FrameSizeError}
use Rattle.h2_frame.specs.declared.head_faults.HeadFault.TheVariants as heads
use Rattle.h2_frame.specs.declared.code.Code.TheVariants.{StreamClosed, CompressionError}
use Rattle.h2_frame.specs.declared.code.Code.TheVariants.{EnhanceYourCalm, InternalError}
use Rattle.h2_frame.specs.Frames.{Frame, Data, Headers, Settings, Ping, WindowUpdate, Continuation}
use Rattle.h2_frame.specs.Encoding.{payload_of}
use Rattle.h2_frame.specs.declared.head_faults.HeadFault.{HeadFault}
use Rattle.h2_wire.specs.declared.fault.WireFault.{WireFault}
use Rattle.h2_wire.specs.declared.fault.WireFault.TheVariants as octets
use Rattle.h2_block.specs.declared.fault.BlockFault.{BlockFault}
use Rattle.h2_block.specs.declared.fault.BlockFault.TheVariants as block
use Rattle.h2_block.specs.Grouping.{next_fault}
use Rattle.h2_spec_log.specs.declared.role.Role.{Role}
use Rattle.h2_spec_log.specs.Acts.{Values, Act, Answer, IsTypedAct, Fail}
use Rattle.h2_spec_log.specs.Limits.{max_resets}
use Rattle.h2_spec_log.specs.Settings.{peer_of, value_fault}
use Rattle.h2_spec_log.specs.View.{View}
use Rattle.h2_spec_log.specs.ItemRules.{Decoded, exceeds, is_idle, may_be_first}
use Rattle.h2_spec_log.specs.Log.{Log}
use Rattle.h2_spec_log.specs.LogView.{log_view}
use Rattle.h2_spec_log.specs.LogSteps.{took_frame, took_fault, took_out_of_memory}
use Rattle.h2_spec_log.specs.LogCalls.{MayAnswer, with_call}
use Rattle.h2_spec_log.specs.Histories.{IsLog, TakesOctets, TakesFault, TakesFrame, IsDecodedFor}
use Rattle.h2_spec_log.specs.Histories.{MayRunOutOfMemory}
use Rattle.h2_conn.specs.declared.why.Why.{Why}
use Rattle.h2_conn.specs.declared.why.Why.TheVariants.{BadPreface, FrameTooLong, PushPromise}
use Rattle.h2_conn.specs.declared.why.Why.TheVariants.{WrongStream, WrongLength, PaddingTooLong}
use Rattle.h2_conn.specs.declared.why.Why.TheVariants.{FirstFrameNotSettings, BlockInterrupted}
use Rattle.h2_conn.specs.declared.why.Why.TheVariants.{StrayContinuation, BlockTooLong}
use Rattle.h2_conn.specs.declared.why.Why.TheVariants.{BlockNotDecoded, FrameOnIdleStream}
use Rattle.h2_conn.specs.declared.why.Why.TheVariants.{DataOnClosedStream, BlockOnClosedStream}
use Rattle.h2_conn.specs.declared.why.Why.TheVariants.{BlockOnIdleNumber, ZeroConnectionIncrement}
use Rattle.h2_conn.specs.declared.why.Why.TheVariants.{DataAboveConnectionWindow}
use Rattle.h2_conn.specs.declared.why.Why.TheVariants.{DataAboveStreamWindow}
use Rattle.h2_conn.specs.declared.why.Why.TheVariants.{ConnectionWindowTooLarge, BadEnablePush}
use Rattle.h2_conn.specs.declared.why.Why.TheVariants.{BadInitialWindow, BadMaxFrameSize}
use Rattle.h2_conn.specs.declared.why.Why.TheVariants.{ShiftTooLarge, TooManyResets}
use Rattle.h2_conn.specs.declared.why.Why.TheVariants.{TooMuchOutput, OutOfMemory, EndedAbove}

-- the rule that the head of a frame breaks (sections 4.2, 6.1 to 6.10)
abbrev pub rule_of_head : HeadFault → Why
rule_of_head heads.TooLong = FrameTooLong
rule_of_head heads.IsPushPromise = PushPromise
rule_of_head heads.WrongStream = WrongStream
rule_of_head heads.WrongLength = WrongLength

-- Octets that are at fault: the preface (section 3.4), a head, or a payload, whose one fault is
-- that its padding is above what the payload leaves for it (sections 6.1 and 6.2).
abbrev pub rule_of_octets : WireFault → Why
rule_of_octets octets.BadPreface = BadPreface
rule_of_octets (octets.HeadFault fault) = rule_of_head fault
rule_of_octets (octets.PayloadFault code) = PaddingTooLong
rule_of_octets octets.Memory = OutOfMemory

-- The limits of section 10.5, of which ENHANCE_YOUR_CALM says that one was reached: once 1,000
-- streams were reset no further one is; otherwise a reply would make too much output wait.
abbrev pub limit_reached : (resets : ℕ) → Why
limit_reached resets = if nat_le max_resets resets then TooManyResets else TooMuchOutput

-- The same by the frame: SETTINGS and PING reset nothing.
abbrev pub rule_of_calm : (resets : ℕ) → Frame → Why
rule_of_calm resets (Settings ack pairs) = TooMuchOutput
rule_of_calm resets (Ping ack octets) = TooMuchOutput
rule_of_calm resets _ = limit_reached resets

-- the rule of section 6.5.2 that the value of a setting breaks, by its identifier
abbrev pub rule_of_setting : ℕ → Why
rule_of_setting id =
    if id == 2 then BadEnablePush else if id == 4 then BadInitialWindow else BadMaxFrameSize

-- the rule that a pair of SETTINGS breaks: its value is at fault (section 6.5.2), or it is an
-- initial window that brings some stream's window above the greatest (section 6.9.2); what the
-- pairs after it break where it breaks none
abbrev pub rule_of_pair : Option Code → (overflows : Bool) → (id : ℕ) → (following : Why) → Why
rule_of_pair (Some code) overflows id following = rule_of_setting id
rule_of_pair None overflows id following = if overflows then ShiftTooLarge else following

-- SETTINGS: the first pair that breaks a rule decides (section 6.5.3). Of SETTINGS that fail the
-- connection one does.
unfoldable pub first_at_fault : View → List (ℕ × ℕ) → Why
first_at_fault view [] = ShiftTooLarge
first_at_fault view (pair ∷ pairs) =
    rule_of_pair (value_fault (peer_of view.role) pair) (pair.0 == 4 && view.overflows pair.1)
    pair.0 (first_at_fault view pairs)

-- A window that is passed (sections 6.9.1 and 6.9.2), of which FLOW_CONTROL_ERROR says: DATA is
-- above the connection's window, or else above its stream's; SETTINGS name an initial window that
-- is too large; and WINDOW_UPDATE brings the connection's above the greatest.
abbrev pub rule_of_windows : View → Frame → Why
rule_of_windows view (Data stream end octets pad) =
    if exceeds (length (payload_of (Data stream end octets pad))) view.recv_window
    then DataAboveConnectionWindow else DataAboveStreamWindow
rule_of_windows view (Settings ack pairs) =
    first_at_fault view pairs
rule_of_windows view _ = ConnectionWindowTooLarge

-- A field block on a stream of the peer's choice (sections 5.1 and 5.1.1).
abbrev pub rule_of_block : (idle : Bool) → Why
rule_of_block idle = if idle then BlockOnIdleNumber else BlockOnClosedStream

-- What PROTOCOL_ERROR says of a frame that is in its place: a field block is on a stream that is
-- not the peer's to open, or closed (sections 5.1 and 5.1.1); a value of SETTINGS is at fault
-- (section 6.5.2); WINDOW_UPDATE of the connection adds nothing (section 6.9); any other frame is
-- on an idle stream (section 5.1).
abbrev pub rule_of_streams : View → Frame → Why
rule_of_streams view (Headers stream end whole fragment pad priority) =
    rule_of_block (is_idle (view.state stream))
rule_of_streams view (Continuation stream whole fragment) =
    rule_of_block (is_idle (view.state stream))
rule_of_streams view (Settings ack pairs) =
    first_at_fault view pairs
rule_of_streams view (WindowUpdate stream increment) =
    if stream == 0 then ZeroConnectionIncrement else FrameOnIdleStream
rule_of_streams view _ = FrameOnIdleStream

-- The same by the code, of a frame that is in its place: it comes first if it may, and interrupts
-- no field block.
abbrev pub rule_by_code : View → Frame → Code → Why
rule_by_code view frame CompressionError = BlockNotDecoded
rule_by_code view frame StreamClosed = DataOnClosedStream
rule_by_code view frame EnhanceYourCalm = rule_of_calm view.resets frame
rule_by_code view frame FlowControlError = rule_of_windows view frame
rule_by_code view frame _ = rule_of_streams view frame

-- A frame that is out of its place among those of a field block (section 6.10).
abbrev pub rule_of_place : Option BlockFault → View → Frame → Code → Why
rule_of_place (Some block.Interrupted) view frame code = BlockInterrupted
rule_of_place (Some block.Stray) view frame code = StrayContinuation
rule_of_place (Some block.TooLong) view frame code = BlockTooLong
rule_of_place (Some block.Memory) view frame code = OutOfMemory
rule_of_place None view frame code = rule_by_code view frame code

-- The rule that a frame breaks which fails the connection with this code: what an end has so far
-- is viewed before the frame. The first frame is SETTINGS without ACK (section 3.4).
-- rule: 5.4.1 (own) A connection that has failed says why
unfoldable pub rule_of_frame : View → Frame → Code → Why
rule_of_frame view frame code =
    if not view.started && not (may_be_first frame) then FirstFrameNotSettings
    else rule_of_place (next_fault view.begun frame) view frame code

-- Why the connection fails with this code where the layer above refuses a stream: a limit is
-- reached, or memory was refused, here or in that layer (INTERNAL_ERROR).
abbrev pub rule_of_refusal : (resets : ℕ) → Code → Why
rule_of_refusal resets EnhanceYourCalm = limit_reached resets
rule_of_refusal resets failed = OutOfMemory

-- Why a call fails the connection with this code: the layer above ends it, or refuses a stream.
abbrev pub rule_of_call : View → Act → Code → Why
rule_of_call view (Fail code) failed = EndedAbove failed
rule_of_call view act failed = rule_of_refusal view.resets failed

-- The connection of this log failed for this: by the step that failed it, from the log before it,
-- whatever calls were answered since.
-- rule: 5.4.1 (own) A connection that has failed says why
pub data FailedFor (role : Role) (values : Values) : Log → Why → Type 0 where
  -- the last of these octets made a fault
  for_octets : {log : Log} → IsLog role values log → TakesOctets log
      → (octets : List ℕ) (fault : WireFault) → TakesFault role log octets fault
      → FailedFor role values (took_fault log octets fault) (rule_of_octets fault)
  -- memory was refused with these octets
  for_memory : {log : Log} → IsLog role values log → log.failed ≡ None
      → (octets : List ℕ) → MayRunOutOfMemory role log octets
      → FailedFor role values (took_out_of_memory log octets) OutOfMemory
  -- the frame that ended with them broke a rule
  for_a_frame : {log : Log} → IsLog role values log → TakesOctets log
      → (octets : List ℕ) (frame : Frame) (decoded : Option Decoded) (code : Code)
      → TakesFrame role log octets frame → IsDecodedFor log decoded frame
      → (took_frame log octets decoded frame).failed ≡ Some code
      → FailedFor role values (took_frame log octets decoded frame)
      (rule_of_frame (log_view log) frame code)
  -- the layer above called
  for_a_call : {log : Log} → IsLog role values log → log.failed ≡ None
      → (act : Act) (answer : Answer) (code : Code) → IsTypedAct act → MayAnswer log act answer
      → (with_call log act answer).failed ≡ Some code
      → FailedFor role values (with_call log act answer) (rule_of_call (log_view log) act code)
  -- calls that changed nothing of it
  still : {log : Log} {why : Why} → FailedFor role values log why → (act : Act) (answer : Answer)
      → IsTypedAct act → MayAnswer log act answer
      → (with_call log act answer).failed ≡ log.failed
      → FailedFor role values (with_call log act answer) why

-- the code with which a connection fails for a reason
-- rule: 5.4.1 (own) A connection that has failed says why
abbrev pub code_of_why : Why → Code
code_of_why BadPreface = ProtocolError
code_of_why FrameTooLong = FrameSizeError
code_of_why PushPromise = ProtocolError
code_of_why WrongStream = ProtocolError
code_of_why WrongLength = FrameSizeError
code_of_why PaddingTooLong = ProtocolError
code_of_why FirstFrameNotSettings = ProtocolError
code_of_why BlockInterrupted = ProtocolError
code_of_why StrayContinuation = ProtocolError
code_of_why BlockTooLong = EnhanceYourCalm
code_of_why BlockNotDecoded = CompressionError
code_of_why FrameOnIdleStream = ProtocolError
code_of_why DataOnClosedStream = StreamClosed
code_of_why BlockOnClosedStream = ProtocolError
code_of_why BlockOnIdleNumber = ProtocolError
code_of_why DataAboveConnectionWindow = FlowControlError
code_of_why DataAboveStreamWindow = FlowControlError
code_of_why ZeroConnectionIncrement = ProtocolError
code_of_why ConnectionWindowTooLarge = FlowControlError
code_of_why BadEnablePush = ProtocolError
code_of_why BadInitialWindow = FlowControlError
code_of_why BadMaxFrameSize = ProtocolError
code_of_why ShiftTooLarge = FlowControlError
code_of_why TooManyResets = EnhanceYourCalm
code_of_why TooMuchOutput = EnhanceYourCalm
code_of_why OutOfMemory = InternalError
code_of_why (EndedAbove code) = code

-- Why the connection of this log has failed, if it has.
abbrev pub IsWhy : Values → Log → Option Why → Type 0
IsWhy values log None = log.failed ≡ None
IsWhy values log (Some why) = FailedFor log.role values log why
