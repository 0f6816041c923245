-- Whatever had happened at the start, the streams up to the last one had their shares.
use Rattle.h2_ends.proofs.Names.{◌-◌}
use Rattle.h2_ends.proofs.PassBegins.{PassGoes}
use Rattle.h2_ends.proofs.end.End.pass_over.Given as goal

abbrev pub invariant-loop-id : goal.invariant-loop-id
invariant-loop-id l = PassGoes l.initial.self l.span l.initial.pass l.self l.pass l.last

abbrev pub decreases-loop-id : goal.decreases-loop-id
decreases-loop-id l = 4294967296 - l.last
