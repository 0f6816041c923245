use Rattle.h2_streams.proofs.Names.{length, keys_of}
use Rattle.h2_streams.proofs.ActiveNumbers.{LeastBefore}
use Rattle.h2_streams.proofs.table.least_of.Given as goal

abbrev pub invariant-loop-number : goal.invariant-loop-number
invariant-loop-number l =
    LeastBefore (length l.yielded) l.above (keys_of l.streams.entries) l.least
