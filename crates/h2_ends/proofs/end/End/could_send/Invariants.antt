-- Whatever has happened, nothing could go on streams up to the last one.
use Rattle.h2_ends.proofs.Names.{◌+◌, ◌-◌}
use Rattle.h2_ends.proofs.QuietSends.{StuckTo}
use Rattle.h2_ends.proofs.end.End.could_send.Given as goal

abbrev pub invariant-loop-id : goal.invariant-loop-id
invariant-loop-id l = StuckTo l.self (l.last + 1)

abbrev pub decreases-loop-id : goal.decreases-loop-id
decreases-loop-id l = 4294967296 - l.last
