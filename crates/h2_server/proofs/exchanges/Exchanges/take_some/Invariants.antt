use Rattle.std.proofs.Common.{◌≤◌, length, take}
use Rattle.h2_server.specs.Exchanges.{handling_of}
use Rattle.h2_server.specs.Steps.{Handles}
use Rattle.h2_server.proofs.exchanges.Exchanges.take_some.Given as goal

-- So many octets were used, and such steps were made.
abbrev pub invariant-loop : goal.invariant-loop
invariant-loop g l =
    record {
      within : l.used ≤ length l.piece;
      handles : Handles
          g.H.Handler
          (take l.used l.piece) l.initial.server.end
          (handling_of l.initial.self) l.server.end
          (handling_of l.self);
    }
