-- By the lemma on either direction.
use Rattle.h2_laws_pair.proofs.BothWays.{ends_to_server, ends_to_client}
use Rattle.h2_laws_pair.proofs.ConnectionWindows.{connection_conserved}
use Rattle.h2_laws_pair.proofs.windows.connection_window_of_a_pair.Goals as goal

pub returns-clause-to_server : goal.returns-clause-to_server
returns-clause-to_server c = λ _ _ client server way back bound is.
    connection_conserved client server way back bound (ends_to_server _ _ client server is)

pub returns-clause-to_client : goal.returns-clause-to_client
returns-clause-to_client c = λ _ _ client server way back bound is.
    connection_conserved server client way back bound (ends_to_client _ _ client server is)
