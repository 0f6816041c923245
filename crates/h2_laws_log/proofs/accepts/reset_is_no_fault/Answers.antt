-- By the lemma on RST_STREAM.
use Rattle.h2_laws_log.proofs.AcceptedItems.{reset_lem}
use Rattle.h2_laws_log.proofs.accepts.reset_is_no_fault.Goals as goal

pub returns : goal.returns
returns c = reset_lem
