-- By the lemma on groupings.
use Rattle.h2_block.proofs.RunLemmas.{one_grouping_lem}
use Rattle.h2_block.proofs.laws.one_grouping.Goals as goal

pub returns : goal.returns
returns c = one_grouping_lem
