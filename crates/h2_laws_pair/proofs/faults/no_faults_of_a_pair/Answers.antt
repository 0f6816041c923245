-- By the lemma on either end.
use Rattle.h2_laws_pair.proofs.FaultsOfPairs.{faultless_client, faultless_server}
use Rattle.h2_laws_pair.proofs.faults.no_faults_of_a_pair.Goals as goal

pub returns-clause-at_client : goal.returns-clause-at_client
returns-clause-at_client c = faultless_client

pub returns-clause-at_server : goal.returns-clause-at_server
returns-clause-at_server c = faultless_server
