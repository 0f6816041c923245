-- By the lemma on either direction.
use Rattle.h2_laws_pair.proofs.Arrived.{all_arrived}
use Rattle.h2_laws_pair.proofs.BothWays.{to_server, to_client, ends_of}
use Rattle.h2_laws_pair.proofs.CarriedOctets.{carried}
use Rattle.h2_laws_pair.proofs.carried.all_arrives.Goals as goal

pub returns-clause-to_server : goal.returns-clause-to_server
returns-clause-to_server c = λ _ _ client server is. all_arrived client server
    (ends_of client server (to_server is)) (carried client server (to_server is))

pub returns-clause-to_client : goal.returns-clause-to_client
returns-clause-to_client c = λ _ _ client server is. all_arrived server client
    (ends_of server client (to_client is)) (carried server client (to_client is))
