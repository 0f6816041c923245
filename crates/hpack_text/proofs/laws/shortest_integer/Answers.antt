use Rattle.hpack_text.proofs.IntegerWriting.{integer_encodes, integer_shortest}
use Rattle.hpack_text.proofs.laws.shortest_integer.Goals as goal

pub returns-clause-encoded : goal.returns-clause-encoded
returns-clause-encoded c = integer_encodes

pub returns-clause-shortest : goal.returns-clause-shortest
returns-clause-shortest c = integer_shortest
