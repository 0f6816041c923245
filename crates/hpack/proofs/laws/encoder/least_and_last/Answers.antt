-- By the lemmas on limits.
use Rattle.hpack.proofs.LimitLemmas.{block_of_limits, block_settles, limit_preserves}
use Rattle.hpack.proofs.laws.encoder.least_and_last.Goals as goal

pub returns-clause-block : goal.returns-clause-block
returns-clause-block c = block_of_limits

pub returns-clause-settled : goal.returns-clause-settled
returns-clause-settled c = block_settles

pub returns-clause-limited : goal.returns-clause-limited
returns-clause-limited c = limit_preserves
