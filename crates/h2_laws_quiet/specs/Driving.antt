-- What drives two joined ends on, and what it reads.
use Rattle.std.specs.Prelude.{ℕ, ◌-◌, length}
use Rattle.h2_spec_log.specs.Acts.{Release}
use Rattle.h2_joined.specs.Joints.{Doing, JointEnd, Pumps, PumpsSome, ReleasesAll, Calls, Moves}
use Rattle.h2_joined.specs.Joints.{Delivers}

-- What is done drives the ends on: one of them pumps, all or some, releases what it owes, or some
-- of it, gives out output, or takes what is delivered. No request, answer, reset or other call is
-- made.
unfoldable pub IsDriving : Doing → Type 0
IsDriving Pumps = Unit {0}
IsDriving (PumpsSome most) = Unit {0}
IsDriving ReleasesAll = Unit {0}
IsDriving (Calls (Release id count)) = Unit {0}
IsDriving (Moves count) = Unit {0}
IsDriving (Delivers count) = Unit {0}
IsDriving doing = ⊥

-- how many items an end has read from the first to the second
abbrev pub received_since : (before after : JointEnd) → ℕ
received_since before after =
    length after.happened.log.received - length before.happened.log.received
