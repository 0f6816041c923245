-- The date is that of the second.
use Rattle.std.proofs.Common.{◌≡◌, sym}
use Rattle.httpdate.specs.Date.{unix_secs}
use Rattle.h2_files.proofs.ResultLemmas.{holds_of}
use Rattle.h2_files.proofs.version.Version.last_modified.Goals as goal

pub returns : goal.returns
returns c = (
  c.in_ok-date.date,
  holds_of (λ date. unix_secs date ≡ c.args.self.now.modified) c.from_unix_secs.result
      c.in_ok-date.date c.from_unix_secs.ensures.value (sym c.in_ok-date.ensures.value),
  c.to_bytes.ensures,
)
