-- The phases of a served connection.
use Rattle.std.specs.Prelude.{Bool, true, false, Option, Some, None}
use Rattle.h2_server.specs.declared.connection.Phase.{Phase}
use Rattle.h2_server.specs.declared.connection.Phase.TheVariants.{Open, Ending, Failing, Over}
use Rattle.h2_server.specs.declared.reason.CloseReason.{CloseReason}

-- Whether it is open.
abbrev pub is_phase_open : Phase → Bool
is_phase_open Open = true
is_phase_open phase = false

-- Whether it is closed.
abbrev pub is_phase_over : Phase → Bool
is_phase_over (Over why) = true
is_phase_over phase = false

-- Whether it has failed or is closed.
abbrev pub is_phase_down : Phase → Bool
is_phase_down (Over why) = true
is_phase_down (Failing why since) = true
is_phase_down phase = false

-- Whether it has failed, and is not closed.
abbrev pub is_phase_failing : Phase → Bool
is_phase_failing (Failing why since) = true
is_phase_failing phase = false

-- why it is closing or closed
abbrev pub reason_of : Phase → Option CloseReason
reason_of Open = None
reason_of (Ending why since) = Some why
reason_of (Failing why since) = Some why
reason_of (Over why) = Some why
