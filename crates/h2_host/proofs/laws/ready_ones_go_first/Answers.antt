use Rattle.h2_host.proofs.TurnsOrder.{ready_first}
use Rattle.h2_host.proofs.laws.ready_ones_go_first.Goals as goal

pub returns : goal.returns
returns g c = λ before old new made answers first other.
    ready_first g.P.Party.steps g.P.Party.held_of g.P.Party.ready_of before old new made answers
    first other
