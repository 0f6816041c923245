-- By the lemma on either end.
use Rattle.h2_laws_pair.proofs.NoEmptyHeard.{server_reports, client_reports}
use Rattle.h2_laws_pair.proofs.heard.no_data_is_empty.Goals as goal

pub returns-clause-at_server : goal.returns-clause-at_server
returns-clause-at_server c = server_reports

pub returns-clause-at_client : goal.returns-clause-at_client
returns-clause-at_client c = client_reports
