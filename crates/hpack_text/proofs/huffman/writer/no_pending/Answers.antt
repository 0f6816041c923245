use Rattle.hpack_text.proofs.Names.{refl, bits_of}
use Rattle.hpack_text.proofs.huffman.writer.no_pending.Goals as goal

pub returns-clause-empty : goal.returns-clause-empty
unfolding bits_of
returns-clause-empty c = refl
