use Rattle.h2_host.proofs.Stepping.{PassesSo}
use Rattle.h2_host.proofs.state.HostState.pass.Given as goal

-- So far those at the places before have seen the time.
abbrev pub invariant-loop-place : goal.invariant-loop-place
invariant-loop-place g l =
    PassesSo g.P.Party.steps g.P.Party.held_of g.P.Party.ready_of l.fn.self l.self l.time l.place
