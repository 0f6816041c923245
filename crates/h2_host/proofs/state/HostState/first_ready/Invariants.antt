use Rattle.std.proofs.Common.{length}
use Rattle.h2_host.proofs.FirstReady.{Passing}
use Rattle.h2_host.proofs.state.HostState.first_ready.Given as goal

-- So far none was ready.
abbrev pub invariant-loop-place : goal.invariant-loop-place
invariant-loop-place g l = Passing g.P.Party.held_of g.P.Party.ready_of l.fn.self l.self

abbrev pub decreases-loop-place : goal.decreases-loop-place
decreases-loop-place g l = length l.self.queue.items
