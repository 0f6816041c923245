-- By the lemma on blocks that are read in order.
use Rattle.h2_laws_log.proofs.TablesInStep.{in_step}
use Rattle.h2_laws_log.proofs.tables.tables_in_step.Goals as goal

pub returns : goal.returns
returns c = in_step
