-- By the lemmas on spread frames.
use Rattle.h2_block.proofs.SpreadLemmas.{spread_grouped, spread_writable}
use Rattle.h2_block.proofs.laws.spread_block.Goals as goal

pub returns-clause-grouped : goal.returns-clause-grouped
returns-clause-grouped c = spread_grouped

pub returns-clause-writable : goal.returns-clause-writable
returns-clause-writable c = spread_writable
