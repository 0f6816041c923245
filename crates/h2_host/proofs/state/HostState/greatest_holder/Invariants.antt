use Rattle.h2_host.specs.Moves.{IsGreatestBelow}
use Rattle.h2_host.proofs.state.HostState.greatest_holder.Given as goal

-- Of the places so far this one holds most.
abbrev pub invariant-loop-place : goal.invariant-loop-place
invariant-loop-place g l =
    IsGreatestBelow g.P.Party.held_of l.self.table.slots.items l.place l.greatest l.most
