-- By the lemma on either end.
use Rattle.h2_laws_pair.proofs.StepPairs.{client_goes_on, server_goes_on}
use Rattle.h2_laws_pair.proofs.steps.steps_keep_a_pair.Goals as goal

pub returns-clause-client : goal.returns-clause-client
returns-clause-client c = client_goes_on

pub returns-clause-server : goal.returns-clause-server
returns-clause-server c = server_goes_on
