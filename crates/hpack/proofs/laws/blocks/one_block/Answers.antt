use Rattle.hpack.proofs.BlockLemmas.{one_block_lem}
use Rattle.hpack.proofs.laws.blocks.one_block.Goals as goal

pub returns : goal.returns
returns c = one_block_lem
