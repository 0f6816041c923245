use Rattle.hpack.proofs.Names.{length, after_maxima, UpdatesSoFar}
use Rattle.hpack.proofs.decode.updates.apply_updates.Given as goal

abbrev pub invariant-loop-unparsed : goal.invariant-loop-unparsed
invariant-loop-unparsed l =
    UpdatesSoFar l.table l.limit l.octets (after_maxima l.table l.maxima) l.unparsed

abbrev pub decreases-loop-unparsed : goal.decreases-loop-unparsed
decreases-loop-unparsed l = length l.unparsed
