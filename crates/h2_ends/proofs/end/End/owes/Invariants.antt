-- Whatever has happened, nothing is owed on streams up to the last one.
use Rattle.h2_ends.proofs.Names.{◌+◌, ◌-◌}
use Rattle.h2_ends.proofs.QuietOwes.{OwesNoneTo}
use Rattle.h2_ends.proofs.end.End.owes.Given as goal

abbrev pub invariant-loop-id : goal.invariant-loop-id
invariant-loop-id l = OwesNoneTo l.self (l.last + 1)

abbrev pub decreases-loop-id : goal.decreases-loop-id
decreases-loop-id l = 4294967296 - l.last
