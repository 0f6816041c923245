-- Whatever had happened at the start, all that is owed on streams up to the last one was released.
use Rattle.h2_ends.proofs.Names.{◌+◌, ◌-◌}
use Rattle.h2_ends.proofs.SendingRelease.{ReleasesTo}
use Rattle.h2_ends.proofs.end.End.release_all.Given as goal

abbrev pub invariant-loop-id : goal.invariant-loop-id
invariant-loop-id l = ReleasesTo l.initial.self l.self (l.last + 1)

abbrev pub decreases-loop-id : goal.decreases-loop-id
decreases-loop-id l = 4294967296 - l.last
