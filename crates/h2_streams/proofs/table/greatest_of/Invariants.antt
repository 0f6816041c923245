use Rattle.h2_streams.proofs.Names.{length, values_of}
use Rattle.h2_streams.proofs.GreatestWindows.{IsGreatestBefore}
use Rattle.h2_streams.proofs.table.greatest_of.Given as goal

abbrev pub invariant-loop-kept : goal.invariant-loop-kept
invariant-loop-kept l =
    IsGreatestBefore (length l.yielded) (values_of l.streams.entries) l.greatest
