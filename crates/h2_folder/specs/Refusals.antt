-- Why a path has no file that is served.
use Rattle.std.specs.Prelude.{ℕ}
use Rattle.std.specs.declared.io.ErrorKind.{ErrorKind}
use Rattle.std.specs.declared.io.ErrorKind.TheVariants as kinds
use Rattle.h2_folder.specs.declared.find.Missing.{Missing}
use Rattle.h2_folder.specs.declared.find.Missing.TheVariants.{NotFound, Forbidden, Failed, Busy}

-- the status of the answer (RFC 9110, sections 15.5.5, 15.5.4, 15.6.1 and 15.6.4)
abbrev pub status_of_missing : Missing → ℕ
status_of_missing NotFound = 404
status_of_missing Forbidden = 403
status_of_missing Failed = 500
status_of_missing Busy = 503

-- why a path has no file, by the error of the file system
-- rule: files (own) What is not there has 404, and what may not be read has 403
abbrev pub missing_at : ErrorKind → Missing
missing_at kinds.NotFound = NotFound
missing_at kinds.NotADirectory = NotFound
missing_at kinds.InvalidInput = NotFound
missing_at kinds.PermissionDenied = Forbidden
missing_at kinds.OutOfMemory = Busy
missing_at kind = Failed
