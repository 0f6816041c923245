-- By the lemma on either end.
use Rattle.h2_laws_pair.proofs.HeardWhole.{server_hears_all, client_hears_all}
use Rattle.h2_laws_pair.proofs.heard.all_is_heard.Goals as goal

pub returns-clause-at_server : goal.returns-clause-at_server
returns-clause-at_server c = server_hears_all

pub returns-clause-at_client : goal.returns-clause-at_client
returns-clause-at_client c = client_hears_all
