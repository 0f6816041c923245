use Rattle.h2_host.proofs.TurnsBounded.{run_gives, run_takes}
use Rattle.h2_host.proofs.laws.turns_are_bounded.Goals as goal

pub returns-clause-taken : goal.returns-clause-taken
returns-clause-taken g c = λ old new made answers.
    run_takes g.P.Party.steps g.P.Party.held_of g.P.Party.ready_of _ old new made answers

pub returns-clause-given : goal.returns-clause-given
returns-clause-given g c = λ old new made answers.
    run_gives g.P.Party.steps g.P.Party.held_of g.P.Party.ready_of _ old new made answers
