use Rattle.hpack.proofs.RoomLemmas.{block_short}
use Rattle.hpack.proofs.laws.encoder.most_octets_of_a_block.Goals as goal

pub returns : goal.returns
returns c = block_short
