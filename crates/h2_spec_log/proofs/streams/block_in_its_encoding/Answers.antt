-- By the lemma on blocks in their encoding.
use Rattle.h2_spec_log.proofs.EncodingLemmas.{takes_block_comes}
use Rattle.h2_spec_log.proofs.streams.block_in_its_encoding.Goals as goal

pub returns : goal.returns
returns c = takes_block_comes
