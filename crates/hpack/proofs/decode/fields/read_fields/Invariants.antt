use Rattle.hpack.proofs.Names.{List, length, Field}
use Rattle.hpack.specs.FieldListBuilder.{Builds}
use Rattle.hpack.specs.Repeated.{IsRepeatable}
use Rattle.hpack.proofs.BlockLemmas.{ReadsSoFar}
use Rattle.hpack.proofs.decode.fields.read_fields.Given as goal

abbrev pub invariant-loop-unparsed : goal.invariant-loop-unparsed
invariant-loop-unparsed l =
    (done : List Field) × ReadsSoFar l.fn.table l.octets l.table l.unparsed done
    × Builds l.fn.builder done l.builder × IsRepeatable l.repeatable l.table done

abbrev pub decreases-loop-unparsed : goal.decreases-loop-unparsed
decreases-loop-unparsed l = length l.unparsed
