use Rattle.hpack_text.proofs.CodeLemmas.{huffman_bits_encode, only_huffman_bits}
use Rattle.hpack_text.proofs.CodeLemmas.{length-huffman_bits}
use Rattle.hpack_text.proofs.laws.one_coding.Goals as goal

pub returns-clause-encoded : goal.returns-clause-encoded
returns-clause-encoded c = huffman_bits_encode

pub returns-clause-only : goal.returns-clause-only
returns-clause-only c = only_huffman_bits

pub returns-clause-counted : goal.returns-clause-counted
returns-clause-counted c = length-huffman_bits
