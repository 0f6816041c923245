use Rattle.std.proofs.Common.{◌-◌}
use Rattle.h2_server.specs.Exchanges.{handling_of}
use Rattle.h2_server.proofs.EndedExchanges.{EndsTo}
use Rattle.h2_server.proofs.exchanges.Exchanges.end_all.Given as goal

-- So far those up to this stream have ended.
abbrev pub invariant-loop-id : goal.invariant-loop-id
invariant-loop-id g l =
    EndsTo
    g.H.Handler
    (handling_of l.initial.self) (handling_of l.self) l.above

abbrev pub decreases-loop-id : goal.decreases-loop-id
decreases-loop-id g l = 4294967296 - l.above
