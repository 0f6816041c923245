use Rattle.h2_host.proofs.FirstReady.{turn_given}
use Rattle.h2_host.proofs.state.HostState.give_turn.Goals as goal

pub returns-clause-turn : goal.returns-clause-turn
returns-clause-turn g c =
    turn_given g.P.Party.held_of g.P.Party.ready_of c.args.self.now c.end_turn.new.self
    c.first_ready.new.self c.first_ready.result c.end_turn.ensures.ends c.first_ready.ensures.turn
