use Rattle.hpack.proofs.Names.{List, length, Field, RepresentsOwned}
use Rattle.hpack.proofs.BlockLemmas.{ReadsSoFar}
use Rattle.hpack.proofs.decode.owned_fields.read_owned_fields.Given as goal

abbrev pub invariant-loop-unparsed : goal.invariant-loop-unparsed
invariant-loop-unparsed l =
    (done : List Field) × ReadsSoFar l.fn.table l.octets l.table l.unparsed done
    × RepresentsOwned l.list_limit done l.builder.list l.builder.remaining

abbrev pub decreases-loop-unparsed : goal.decreases-loop-unparsed
decreases-loop-unparsed l = length l.unparsed
