-- The status of an answer to a path that names no file (RFC 9110, section 15).
use Rattle.std.specs.Prelude.{ℕ}
use Rattle.h2_files.specs.declared.fault.PathFault.{PathFault}
use Rattle.h2_files.specs.declared.fault.PathFault.TheVariants as faults

-- Bad Request (15.5.1) where the path can't be read, URI Too Long (15.5.15), Service Unavailable
-- (15.6.4) where memory is missing; else Not Found (15.5.5), which doesn't say what there is
abbrev pub status_of_fault : PathFault → ℕ
status_of_fault faults.TooLong = 414
status_of_fault faults.NotAbsolute = 400
status_of_fault faults.BadEscape = 400
status_of_fault faults.Control = 400
status_of_fault faults.NotText = 400
status_of_fault faults.Empty = 404
status_of_fault faults.Dot = 404
status_of_fault faults.Separator = 404
status_of_fault faults.LongName = 404
status_of_fault faults.Memory = 503
