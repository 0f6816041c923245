-- By enough rounds, in which no Reset is made.
use Rattle.h2_laws_quiet.proofs.Arrivals.{client_arrives, server_arrives}
use Rattle.h2_laws_quiet.proofs.rounds.driven_messages_arrive.Goals as goal

pub returns-clause-at_client : goal.returns-clause-at_client
returns-clause-at_client c = client_arrives

pub returns-clause-at_server : goal.returns-clause-at_server
returns-clause-at_server c = server_arrives
