-- The statuses with which a command ends, and their numbers.
use Rattle.std.specs.Prelude.{ℕ}
use Rattle.h2_cli.specs.declared.failure.Failure.{Failure}
use Rattle.h2_cli.specs.declared.failure.Failure.TheVariants as failures
use Rattle.h2_cli.specs.declared.status.Status.{Status}
use Rattle.h2_cli.specs.declared.status.Status.TheVariants.{Good, Fault, Usage, Device, Memory}

-- the number of each status; only that of a good end is 0
-- rule: show (own) The status is 0 only where the input is good to its end
-- rule: show (own) Lines are written before the next read and before the end
abbrev pub exit_code_of : Status → ℕ
exit_code_of Good = 0
exit_code_of Fault = 1
exit_code_of Usage = 2
exit_code_of Device = 3
exit_code_of Memory = 4

-- the status of a command that fails
-- rule: show (own) Hexadecimal is read without its blanks; other text is refused
-- rule: show (own) Lines are written before the next read and before the end
-- rule: show (own) The words choose the end and hexadecimal
abbrev pub failure_status : Failure → Status
failure_status failures.Device = Device
failure_status failures.Memory = Memory
failure_status failures.BadHex = Usage
