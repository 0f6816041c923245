use Rattle.std.proofs.Common.{◌-◌, []}
use Rattle.h2_server.specs.Exchanges.{handling_of}
use Rattle.h2_server.specs.Steps.{Handles}
use Rattle.h2_server.proofs.exchanges.Exchanges.settle.Given as goal

-- So far such steps were made.
abbrev pub invariant-loop-id : goal.invariant-loop-id
invariant-loop-id g l =
    Handles g.H.Handler [] l.initial.server.end (handling_of l.initial.self) l.server.end
    (handling_of l.self)

abbrev pub decreases-loop-id : goal.decreases-loop-id
decreases-loop-id g l = 4294967296 - l.above
