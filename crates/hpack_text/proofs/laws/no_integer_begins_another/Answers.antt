use Rattle.hpack_text.proofs.IntegerLemmas.{Int-unique}
use Rattle.hpack_text.proofs.laws.no_integer_begins_another.Goals as goal

pub returns : goal.returns
returns c = Int-unique
