-- The status of a command, by how its connection has ended.
use Rattle.std.specs.Prelude.{◌≡◌, ◌⊎◌, ◌<◌, ℕ, Bool, true, List, Option, Some, None}
use Rattle.std.specs.Prelude.{Result, Ok, Err}
use Rattle.std.specs.declared.io.ErrorKind.{ErrorKind}
use Rattle.h2_cli.specs.declared.status.Status.{Status}
use Rattle.h2_cli.specs.declared.status.Status.TheVariants as statuses
use Rattle.h2_link.specs.declared.error.LinkError.{LinkError}
use Rattle.h2_link.specs.declared.error.LinkError.TheVariants as errors
use Rattle.h2_cli.specs.declared.hint.Hint.{Hint}
use Rattle.h2_cli.specs.Hints.{IsDueAtClient, IsDueAtServer, device_hint, connect_hint}
use Rattle.h2_net.specs.declared.ending.Ending.{Ending}

-- Devices that fail and memory have their own; the peer's faults are those of `show` and `replay`.
-- rule: engines (own) N1 to N7 end a command with their statuses
abbrev pub status_with : LinkError → Status
status_with errors.Device = statuses.Device
status_with (errors.Stream code) = statuses.Fault
status_with errors.Memory = statuses.Memory
status_with errors.CutOff = statuses.Fault
status_with errors.NoProgress = statuses.Device
status_with (errors.Reset code) = statuses.Fault
status_with errors.Refused = statuses.Usage

-- A status with which serving may end: there are words for it, and no request of its own.
abbrev pub IsServingStatus : Status → Type 0
IsServingStatus statuses.Usage = ⊥
IsServingStatus status = Unit {0}

-- How a connection over a stream ends, by how it was served: so, or N1 where what was held could
-- not be sent.
abbrev pub EndsStream : (served : Result ℕ LinkError) → Result (Unit {0}) LinkError → Type 0
EndsStream (Ok count) (Ok done) = Unit {0}
EndsStream (Err error) (Ok done) = ⊥
EndsStream (Ok count) (Err error) = error ≡ errors.Device
EndsStream (Err reason) (Err error) = (error ≡ reason) ⊎ (error ≡ errors.Device)

-- N1 is answered exactly where a call of the link has failed.
-- rule: engines (own) N1 comes exactly where a call of the link has failed
abbrev pub FailsByLink : {T : Type 0} → (failures failures_now : ℕ) → Result T LinkError → Type 0
FailsByLink failures failures_now (Err errors.Device) = failures < failures_now
FailsByLink failures failures_now result = failures_now ≡ failures

-- After N2 and N3 the call was made that drops input (`StreamLink::drain`). What it drops is
-- tested.
-- rule: engines (own) After N2 and N3 input is dropped up to 16 MiB
abbrev pub DrainsAfter : {T : Type 0} → Result T LinkError → (drained : Bool) → Type 0
DrainsAfter (Err (errors.Stream code)) drained = drained ≡ true
DrainsAfter (Err errors.Memory) drained = drained ≡ true
DrainsAfter result drained = Unit {0}

-- what came of a connection, without the hint
abbrev pub without_hint : {T : Type 0} → Result T Ending → Result T LinkError
without_hint (Ok value) = Ok value
without_hint (Err ending) = Err ending.error

-- the hint for the last error of a link, if it has had one
abbrev pub link_hint : Option ErrorKind → Option Hint
link_hint None = None
link_hint (Some kind) = device_hint kind

-- rule: engines (own) A hint after the line names the likely cause of N1 and N2
-- The hint that is due at a client whose connection has ended so, by the first octets that were
-- read and the last error of the link: for N1 and N2 alone.
abbrev pub IsClientHint : LinkError → (first : List ℕ) → Option ErrorKind → Option Hint → Type 0
IsClientHint (errors.Stream code) first last_error hint = IsDueAtClient code first hint
IsClientHint errors.Device first last_error hint = hint ≡ link_hint last_error
IsClientHint error first last_error hint = hint ≡ None

-- The hint of a fetch that has ended so: the one that is due at its client, by some first octets
-- and a last error; or for N1, where no connection could be made, by the error of that.
abbrev pub HasClientHint : Ending → Type 0
HasClientHint ending =
    ((first : List ℕ) × (last_error : Option ErrorKind)
    × IsClientHint ending.error first last_error ending.hint)
    ⊎ ((kind : ErrorKind) × (ending.error ≡ errors.Device) × (ending.hint ≡ connect_hint kind))

-- The hint that is due at a server.
abbrev pub IsServerHint : LinkError → (first : List ℕ) → Option ErrorKind → Option Hint → Type 0
IsServerHint (errors.Stream code) first last_error hint = IsDueAtServer code first hint
IsServerHint errors.Device first last_error hint = hint ≡ link_hint last_error
IsServerHint error first last_error hint = hint ≡ None
