use Rattle.std.proofs.Common.{◌-◌, []}
use Rattle.h2_ends.specs.declared.end.End.{End}
use Rattle.h2_server.specs.Exchanges.{awake, handling_of}
use Rattle.h2_server.specs.Steps.{Handles}
use Rattle.h2_server.proofs.Asked.{ChangedTo}
use Rattle.h2_server.proofs.exchanges.Exchanges.ask_again.Given as goal

-- So far such steps were made, and those up to this stream may be asked again.
abbrev pub invariant-loop-id : goal.invariant-loop-id
invariant-loop-id g l =
    record {
      handles : (end : End) → Handles g.H.Handler [] end (handling_of l.initial.self) end
          (handling_of l.self);
      woken : ChangedTo awake l.initial.self.kept.entries l.self.kept.entries l.above;
    }

abbrev pub decreases-loop-id : goal.decreases-loop-id
decreases-loop-id g l = 4294967296 - l.above
