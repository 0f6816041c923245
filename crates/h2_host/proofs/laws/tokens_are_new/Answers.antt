use Rattle.h2_host.proofs.TokensGiven.{run_new}
use Rattle.h2_host.proofs.laws.tokens_are_new.Goals as goal

pub returns : goal.returns
returns g c = λ old new made answers.
    run_new g.P.Party.steps g.P.Party.held_of g.P.Party.ready_of _ new old made answers
