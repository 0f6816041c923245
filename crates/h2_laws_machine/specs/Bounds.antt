-- What is bounded at one end, whatever comes and whatever is asked of it.
use Rattle.std.specs.Prelude.{◌≡◌, ℕ, ◌+◌, ◌≤◌, Some, None, length}
use Rattle.hpack.specs.Written.{IsValidEncoder}
use Rattle.h2_spec_log.specs.Acts.{Values, AreInRange}
use Rattle.h2_spec_log.specs.Limits.{max_output, max_resets}
use Rattle.h2_spec_machine.specs.End.{End}
use Rattle.h2_spec_machine.specs.Represents.{ConservesConnectionWindow, NoneAboveHighest}

-- the octets of a GOAWAY without debug octets
abbrev pub goaway_size : ℕ
goaway_size = 17

-- the most active streams (own)
abbrev pub max_active : ℕ
max_active = 1000

-- Output waits within its bound, which only the GOAWAY of a connection error exceeds; no more
-- streams were reset, and no more are active, than may be; and what is in force keeps to that.
pub record IsBounded (e : End) : Type 0 where
  pub up : e.failed ≡ None → length e.output.waiting ≤ max_output
  pub output : length e.output.waiting ≤ max_output + goaway_size
  pub resets : e.streams.resets ≤ max_resets
  pub active_count : e.streams.active_count ≤ max_active
  pub streams_allowed : e.peer.max_streams ≤ max_active
  pub max_streams : e.own.in_force.max_streams ≤ max_active
  pub awaited : (values : Values) → e.own.awaited ≡ Some values → AreInRange values
  pub encoder : IsValidEncoder e.output.encoder

-- The connection's receive window is conserved, and nothing is kept of numbers that weren't used.
pub record KeepsConnectionWindow (e : End) : Type 0 where
  pub whole : ConservesConnectionWindow e
  pub used : NoneAboveHighest e
