-- How a host ends, and within which bounds it serves.
use Rattle.std.specs.Prelude.{◌≡◌, ◌⊎◌, ◌*◌, ◌-◌, ◌^◌, ℕ, min, Option, Some, None}
use Rattle.std.specs.declared.io.ErrorKind.{ErrorKind}
use Rattle.std.specs.declared.io.ErrorKind.TheVariants as kinds
use Rattle.h2_cli.specs.declared.hint.Hint.{Hint}
use Rattle.h2_cli.specs.declared.hint.Hint.TheVariants as hints
use Rattle.h2_cli.specs.declared.status.Status.{Status}
use Rattle.h2_cli.specs.declared.status.Status.TheVariants.{Good, Memory, Device}

-- The status of a host that could not serve, or not go on.
abbrev pub IsFailedHost : Status → Type 0
IsFailedHost status = (status ≡ Memory) ⊎ (status ≡ Device)

-- The status of a host: it has served until its end, or could not.
-- rule: hosts (own) A host ends with one of three statuses
abbrev pub EndsHosting : Status → Type 0
EndsHosting status = (status ≡ Good) ⊎ IsFailedHost status

-- seconds in milliseconds; no more than 2^64 - 1
-- rule: hosts (own) The options of a host say what is served, where, and for how long
abbrev pub in_milliseconds : (seconds : ℕ) → ℕ
in_milliseconds seconds = min (2 ^ 64 - 1) (seconds * 1000)

-- the hint where a host ends for an error of this kind: that of its port; none of its log, as where
-- nobody reads it any more
-- rule: hosts (own) The hint of a host is of its port, and never of its log
abbrev pub port_hint : ErrorKind → Option Hint
port_hint kinds.AddrInUse = Some hints.PortInUse
port_hint kinds.PermissionDenied = Some hints.PortForbidden
port_hint kind = None
