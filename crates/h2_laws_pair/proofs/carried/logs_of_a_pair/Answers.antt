-- By the lemma on both logs.
use Rattle.h2_laws_pair.proofs.PairLogs.{both_logs}
use Rattle.h2_laws_pair.proofs.carried.logs_of_a_pair.Goals as goal

pub returns-clause-client : goal.returns-clause-client
returns-clause-client c = λ _ _ client server is. (both_logs _ _ client server is).client_log

pub returns-clause-server : goal.returns-clause-server
returns-clause-server c = λ _ _ client server is. (both_logs _ _ client server is).server_log
