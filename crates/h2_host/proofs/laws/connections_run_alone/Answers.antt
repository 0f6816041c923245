use Rattle.h2_host.proofs.RunsAlone.{runs_alone}
use Rattle.h2_host.proofs.RunsApart.{run_apart}
use Rattle.h2_host.proofs.laws.connections_run_alone.Goals as goal

pub returns-clause-alone : goal.returns-clause-alone
returns-clause-alone g c = λ old new moves. runs_alone g.P.Party.steps new old moves

pub returns-clause-apart : goal.returns-clause-apart
returns-clause-apart g c = λ old new made answers.
    run_apart g.P.Party.steps g.P.Party.held_of g.P.Party.ready_of _ old new made answers
