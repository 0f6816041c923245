-- By the lemma on either end.
use Rattle.h2_joined.proofs.RunLaws.{client_no_fault, server_no_fault}
use Rattle.h2_joined.proofs.laws.no_fault_is_reported.Goals as goal

pub returns-clause-at_client : goal.returns-clause-at_client
returns-clause-at_client c = client_no_fault

pub returns-clause-at_server : goal.returns-clause-at_server
returns-clause-at_server c = server_no_fault
