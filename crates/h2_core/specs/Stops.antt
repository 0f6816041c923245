-- Why a step stops, and how the connection fails for it.
use Rattle.std.specs.Prelude.{◌≡◌, ◌<◌, ◌^◌, max}
use Rattle.h2_frame.specs.declared.code.Code.{Code}
use Rattle.h2_frame.specs.declared.code.Code.TheVariants.{InternalError}
use Rattle.h2_spec_machine.specs.End.{End}
use Rattle.h2_spec_machine.specs.Machine.{fail}
use Rattle.h2_core.specs.declared.step_error.StepError.{StepError}
use Rattle.h2_core.specs.declared.step_error.StepError.TheVariants.{Fault, OutOfMemory}

-- The stream that a frame at fault opens has a number of 31 bits.
abbrev pub IsSmall : StepError → Type 0
IsSmall (Fault code opened) = opened < 2 ^ 31
IsSmall OutOfMemory = Unit {0}

-- The connection fails for the cause, with its code.
abbrev pub FailsBy : End → StepError → Code → End → Type 0
FailsBy e (Fault code opened) answer new =
    (answer ≡ code) × (new ≡ fail code (max e.streams.last_processed opened) e)
FailsBy e OutOfMemory answer new =
    (answer ≡ InternalError) × (new ≡ fail InternalError e.streams.last_processed e)
