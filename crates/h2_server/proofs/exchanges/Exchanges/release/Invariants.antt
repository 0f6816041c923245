use Rattle.std.proofs.Common.{◌≡◌, ◌-◌}
use Rattle.h2_server.specs.Exchanges.{handling_of}
use Rattle.h2_server.proofs.CreditSteps.{HandlesUpTo}
use Rattle.h2_server.proofs.exchanges.Exchanges.release.Given as goal

-- So far credit was returned on each stream up to this number, and the exchanges are the same.
abbrev pub invariant-loop-id : goal.invariant-loop-id
invariant-loop-id g l =
    HandlesUpTo
    g.H.Handler
    l.initial.server.end (handling_of l.initial.self) l.above l.server.end
    × (l.self ≡ l.initial.self)

abbrev pub decreases-loop-id : goal.decreases-loop-id
decreases-loop-id g l = 4294967296 - l.above
