use Rattle.hpack.proofs.WrittenBlocks.{block_encodes, block_preserves, block_goes_on}
use Rattle.hpack.proofs.laws.encoder.written_block.Goals as goal

pub returns-clause-block : goal.returns-clause-block
returns-clause-block c = block_encodes

pub returns-clause-goes_on : goal.returns-clause-goes_on
returns-clause-goes_on c = block_goes_on

pub returns-clause-maximum : goal.returns-clause-maximum
returns-clause-maximum c = λ state fields writing. (block_preserves state fields writing).same
