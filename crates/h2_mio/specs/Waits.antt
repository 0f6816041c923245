-- How long a driver waits for its sockets.
use Rattle.std.specs.Prelude.{◌||◌, ℕ, Bool, if◌then◌else◌}

-- the milliseconds of a wait: none where a connection has its turn, or one can be accepted, and
-- else until time is to pass
abbrev pub wait_of : (has_turns accepts : Bool) → ℕ
wait_of has_turns accepts = if has_turns || accepts then 0 else 100
