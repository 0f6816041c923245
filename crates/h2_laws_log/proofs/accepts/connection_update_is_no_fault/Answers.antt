-- By the lemma on WINDOW_UPDATE of the connection.
use Rattle.h2_laws_log.proofs.AcceptedItems.{connection_update_lem}
use Rattle.h2_laws_log.proofs.accepts.connection_update_is_no_fault.Goals as goal

pub returns : goal.returns
returns c = connection_update_lem
