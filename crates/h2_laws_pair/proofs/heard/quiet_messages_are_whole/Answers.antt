-- By the lemma on either end.
use Rattle.h2_laws_pair.proofs.HeardQuiet.{server_hears_whole, client_hears_whole}
use Rattle.h2_laws_pair.proofs.heard.quiet_messages_are_whole.Goals as goal

pub returns-clause-at_server : goal.returns-clause-at_server
returns-clause-at_server c = server_hears_whole

pub returns-clause-at_client : goal.returns-clause-at_client
returns-clause-at_client c = client_hears_whole
