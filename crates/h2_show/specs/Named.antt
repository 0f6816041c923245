-- The names of settings and of error codes by their numbers (RFC 9113, sections 6.5.2 and 7).
use Rattle.std.specs.Prelude.{ℕ, ◌==◌, if◌then◌else◌, List, codes, Option, Some, None}
use Rattle.h2_frame.specs.declared.code.Code.TheVariants.{NoError, ProtocolError, InternalError}
use Rattle.h2_frame.specs.declared.code.Code.TheVariants.{FlowControlError, SettingsTimeout}
use Rattle.h2_frame.specs.declared.code.Code.TheVariants.{StreamClosed, FrameSizeError}
use Rattle.h2_frame.specs.declared.code.Code.TheVariants.{RefusedStream, Cancel, CompressionError}
use Rattle.h2_frame.specs.declared.code.Code.TheVariants.{ConnectError, EnhanceYourCalm}
use Rattle.h2_frame.specs.declared.code.Code.TheVariants.{InadequateSecurity, Http11Required}
use Rattle.h2_frame.specs.Codes.{name_of}

-- the name of a setting, where RFC 9113 has one, without `SETTINGS_` (section 6.5.2)
-- rule: show (own) Settings and error codes have their names where words ask for them
abbrev pub setting_name : (id : ℕ) → Option (List ℕ)
setting_name id =
    if id == 1 then Some (codes "HEADER_TABLE_SIZE")
    else if id == 2 then Some (codes "ENABLE_PUSH")
    else if id == 3 then Some (codes "MAX_CONCURRENT_STREAMS")
    else if id == 4 then Some (codes "INITIAL_WINDOW_SIZE")
    else if id == 5 then Some (codes "MAX_FRAME_SIZE")
    else if id == 6 then Some (codes "MAX_HEADER_LIST_SIZE")
    else None

-- the name of an error code by its number, where RFC 9113 has one (section 7)
-- rule: show (own) Settings and error codes have their names where words ask for them
abbrev pub code_name : (number : ℕ) → Option (List ℕ)
code_name number =
    if number == 0 then Some (name_of NoError)
    else if number == 1 then Some (name_of ProtocolError)
    else if number == 2 then Some (name_of InternalError)
    else if number == 3 then Some (name_of FlowControlError)
    else if number == 4 then Some (name_of SettingsTimeout)
    else if number == 5 then Some (name_of StreamClosed)
    else if number == 6 then Some (name_of FrameSizeError)
    else if number == 7 then Some (name_of RefusedStream)
    else if number == 8 then Some (name_of Cancel)
    else if number == 9 then Some (name_of CompressionError)
    else if number == 10 then Some (name_of ConnectError)
    else if number == 11 then Some (name_of EnhanceYourCalm)
    else if number == 12 then Some (name_of InadequateSecurity)
    else if number == 13 then Some (name_of Http11Required)
    else None
