-- By the lemma on later blocks.
use Rattle.h2_laws_log.proofs.AcceptedItems.{block_lem}
use Rattle.h2_laws_log.proofs.accepts.block_is_no_fault.Goals as goal

pub returns : goal.returns
returns c = block_lem
