-- What counts of an end after the connection has failed.
use Rattle.std.specs.Prelude.{◌≡◌, ◌≢◌, None}
use Rattle.h2_spec_machine.specs.End.{End}

-- The connection has failed, and of what counts then both ends have the same: the code, the
-- output, the streams, the windows and the peer's settings. What was read last, and what no call
-- reads any more, may differ.
pub record FailsAlike (e other : End) : Type 0 where
  pub down : e.failed ≢ None
  pub role : other.role ≡ e.role
  pub failed : other.failed ≡ e.failed
  pub streams : other.streams ≡ e.streams
  pub windows : other.windows ≡ e.windows
  pub peer : other.peer ≡ e.peer
  pub waiting : other.output.waiting ≡ e.output.waiting
