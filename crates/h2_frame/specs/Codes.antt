-- Names of error codes, and kinds of frames by their numbers (RFC 9113, sections 6 and 7).
use Rattle.std.specs.Prelude.{ℕ, ◌==◌, if◌then◌else◌, List, codes}
use Rattle.h2_frame.specs.declared.code.Code.{Code}
use Rattle.h2_frame.specs.declared.code.Code.TheVariants.{NoError, ProtocolError, InternalError}
use Rattle.h2_frame.specs.declared.code.Code.TheVariants.{FlowControlError, SettingsTimeout}
use Rattle.h2_frame.specs.declared.code.Code.TheVariants.{StreamClosed, FrameSizeError}
use Rattle.h2_frame.specs.declared.code.Code.TheVariants.{RefusedStream, Cancel, CompressionError}
use Rattle.h2_frame.specs.declared.code.Code.TheVariants.{ConnectError, EnhanceYourCalm}
use Rattle.h2_frame.specs.declared.code.Code.TheVariants.{InadequateSecurity, Http11Required}
use Rattle.h2_frame.specs.declared.kind.Kind.{Kind}
use Rattle.h2_frame.specs.declared.kind.Kind.TheVariants.{Data, Headers, Priority, RstStream}
use Rattle.h2_frame.specs.declared.kind.Kind.TheVariants.{Settings, PushPromise, Ping, GoAway}
use Rattle.h2_frame.specs.declared.kind.Kind.TheVariants.{WindowUpdate, Continuation, Unknown}

-- the name of an error code (RFC 9113, section 7)
-- rule: 7 Each error code has its name
-- rule: show (own) A fault is printed with the name of its code and its place
-- rule: replay (own) A fault of an end is printed with the name of its code
abbrev pub name_of : Code → List ℕ
name_of NoError = codes "NO_ERROR"
name_of ProtocolError = codes "PROTOCOL_ERROR"
name_of InternalError = codes "INTERNAL_ERROR"
name_of FlowControlError = codes "FLOW_CONTROL_ERROR"
name_of SettingsTimeout = codes "SETTINGS_TIMEOUT"
name_of StreamClosed = codes "STREAM_CLOSED"
name_of FrameSizeError = codes "FRAME_SIZE_ERROR"
name_of RefusedStream = codes "REFUSED_STREAM"
name_of Cancel = codes "CANCEL"
name_of CompressionError = codes "COMPRESSION_ERROR"
name_of ConnectError = codes "CONNECT_ERROR"
name_of EnhanceYourCalm = codes "ENHANCE_YOUR_CALM"
name_of InadequateSecurity = codes "INADEQUATE_SECURITY"
name_of Http11Required = codes "HTTP_1_1_REQUIRED"

-- the number of an error code (RFC 9113, section 7)
-- rule: 7 Each error code has its number
abbrev pub code_number : Code → ℕ
code_number NoError = 0
code_number ProtocolError = 1
code_number InternalError = 2
code_number FlowControlError = 3
code_number SettingsTimeout = 4
code_number StreamClosed = 5
code_number FrameSizeError = 6
code_number RefusedStream = 7
code_number Cancel = 8
code_number CompressionError = 9
code_number ConnectError = 10
code_number EnhanceYourCalm = 11
code_number InadequateSecurity = 12
code_number Http11Required = 13

-- the kind that an octet of a head names (RFC 9113, section 6); other numbers are unknown kinds
-- rule: 6 Each type of frame has its number
unfoldable pub kind_of : ℕ → Kind
kind_of number =
    if number == 0 then Data
    else if number == 1 then Headers
    else if number == 2 then Priority
    else if number == 3 then RstStream
    else if number == 4 then Settings
    else if number == 5 then PushPromise
    else if number == 6 then Ping
    else if number == 7 then GoAway
    else if number == 8 then WindowUpdate
    else if number == 9 then Continuation
    else Unknown number

-- the number of a kind
-- rule: 6 Each type of frame has its number
abbrev pub number_of : Kind → ℕ
number_of Data = 0
number_of Headers = 1
number_of Priority = 2
number_of RstStream = 3
number_of Settings = 4
number_of PushPromise = 5
number_of Ping = 6
number_of GoAway = 7
number_of WindowUpdate = 8
number_of Continuation = 9
number_of (Unknown number) = number
