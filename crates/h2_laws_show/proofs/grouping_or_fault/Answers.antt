-- By the lemma on groupings.
use Rattle.h2_laws_show.proofs.Groupings.{grouping_or_fault_lem}
use Rattle.h2_laws_show.proofs.grouping_or_fault.Goals as goal

pub returns : goal.returns
returns c = grouping_or_fault_lem
