-- By the lemma on either direction.
use Rattle.h2_laws_pair.proofs.BothWays.{to_server, to_client}
use Rattle.h2_laws_pair.proofs.TablesOfPairs.{in_step}
use Rattle.h2_laws_pair.proofs.tables.acknowledgments_are_awaited.Goals as goal

pub returns-clause-at_server : goal.returns-clause-at_server
returns-clause-at_server c = λ _ _ client server is. (in_step client server (to_server is)).awaited

pub returns-clause-at_client : goal.returns-clause-at_client
returns-clause-at_client c = λ _ _ client server is. (in_step server client (to_client is)).awaited
