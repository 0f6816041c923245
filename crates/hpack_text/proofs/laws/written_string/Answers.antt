use Rattle.hpack_text.proofs.StringLemmas.{string_encodes, string_huffman_where}
use Rattle.hpack_text.proofs.laws.written_string.Goals as goal

pub returns-clause-encoded : goal.returns-clause-encoded
returns-clause-encoded c = string_encodes

pub returns-clause-huffman_where_not_longer : goal.returns-clause-huffman_where_not_longer
returns-clause-huffman_where_not_longer c = λ text _. string_huffman_where text
