-- Whatever had happened at the start, nothing more could go on streams up to the last one.
use Rattle.h2_ends.proofs.Names.{◌-◌}
use Rattle.h2_ends.proofs.SendingPump.{PumpsTo}
use Rattle.h2_ends.proofs.end.End.pump.Given as goal

abbrev pub invariant-loop-id : goal.invariant-loop-id
invariant-loop-id l = PumpsTo l.initial.self l.self l.left l.count l.last

abbrev pub decreases-loop-id : goal.decreases-loop-id
decreases-loop-id l = 4294967296 - l.last
