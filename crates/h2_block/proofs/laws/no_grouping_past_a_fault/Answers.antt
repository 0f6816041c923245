-- By the lemmas on frames at fault.
use Rattle.h2_block.proofs.RunLemmas.{no_grouping_lem, one_fault_lem}
use Rattle.h2_block.proofs.laws.no_grouping_past_a_fault.Goals as goal

pub returns-clause-grouping : goal.returns-clause-grouping
returns-clause-grouping c = no_grouping_lem

pub returns-clause-fault : goal.returns-clause-fault
returns-clause-fault c = one_fault_lem
