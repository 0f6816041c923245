-- By the lemma on either end.
use Rattle.h2_laws_pair.proofs.HeardPairs.{server_hears, client_hears, begins_message}
use Rattle.h2_laws_pair.proofs.heard.heard_is_a_prefix.Goals as goal

pub returns-clause-at_server : goal.returns-clause-at_server
returns-clause-at_server c = server_hears

pub returns-clause-at_client : goal.returns-clause-at_client
returns-clause-at_client c = client_hears

pub returns-clause-of_a_request : goal.returns-clause-of_a_request
returns-clause-of_a_request c = λ _ _ client server i message waiting is sending.
    begins_message _ _ waiting _ (server_hears _ _ client server i is) sending.sent

pub returns-clause-of_a_response : goal.returns-clause-of_a_response
returns-clause-of_a_response c = λ _ _ client server i message waiting is sending.
    begins_message _ _ waiting _ (client_hears _ _ client server i is) sending.sent
