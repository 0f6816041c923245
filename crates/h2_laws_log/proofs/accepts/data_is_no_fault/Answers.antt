-- By the lemma on DATA.
use Rattle.h2_laws_log.proofs.AcceptedItems.{data_lem}
use Rattle.h2_laws_log.proofs.accepts.data_is_no_fault.Goals as goal

pub returns : goal.returns
returns c = data_lem
