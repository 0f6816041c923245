-- By the lemma on WINDOW_UPDATE of a stream.
use Rattle.h2_laws_log.proofs.AcceptedItems.{update_lem}
use Rattle.h2_laws_log.proofs.accepts.update_is_no_fault.Goals as goal

pub returns : goal.returns
returns c = update_lem
