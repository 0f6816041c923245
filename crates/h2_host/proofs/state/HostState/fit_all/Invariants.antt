use Rattle.h2_host.proofs.Refusals.{Fitting}
use Rattle.h2_host.proofs.state.HostState.fit_all.Given as goal

-- So far these were refused, each since all held too much.
abbrev pub invariant-loop-self : goal.invariant-loop-self
invariant-loop-self g l =
    Fitting g.P.Party.steps g.P.Party.held_of g.P.Party.ready_of l.fn.self l.self

abbrev pub decreases-loop-self : goal.decreases-loop-self
decreases-loop-self g l = l.self.held
