-- By the lemma on either direction.
use Rattle.h2_laws_pair.proofs.BothWays.{to_server, to_client}
use Rattle.h2_laws_pair.proofs.WaitingBound.{waiting_is_bounded}
use Rattle.h2_laws_pair.proofs.faults.waiting_of_a_pair.Goals as goal

pub returns-clause-at_client : goal.returns-clause-at_client
returns-clause-at_client c = λ _ _ client server is. waiting_is_bounded client server (to_server is)

pub returns-clause-at_server : goal.returns-clause-at_server
returns-clause-at_server c = λ _ _ client server is. waiting_is_bounded server client (to_client is)
