-- By the lemma on both directions.
use Rattle.h2_laws_pair.proofs.CarriedItems.{items_both_ways}
use Rattle.h2_laws_pair.proofs.carried.items_are_carried.Goals as goal

pub returns-clause-to_server : goal.returns-clause-to_server
returns-clause-to_server c = λ _ _ client server is. (items_both_ways _ _ client server is).0

pub returns-clause-to_client : goal.returns-clause-to_client
returns-clause-to_client c = λ _ _ client server is. (items_both_ways _ _ client server is).1
