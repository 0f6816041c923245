-- By the lemma on a block's octets.
use Rattle.h2_laws_log.proofs.BlockSizes.{block_is_gathered}
use Rattle.h2_laws_log.proofs.tables.block_fits.Goals as goal

pub returns : goal.returns
returns c = block_is_gathered
