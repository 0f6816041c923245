-- By what is known of two quiet ends.
use Rattle.h2_laws_quiet.proofs.QuietMessages.{at_client, at_server}
use Rattle.h2_laws_quiet.proofs.waiting.nothing_waits_at_a_quiet_pair.Goals as goal

pub returns-clause-at_client : goal.returns-clause-at_client
returns-clause-at_client c = at_client

pub returns-clause-at_server : goal.returns-clause-at_server
returns-clause-at_server c = at_server
