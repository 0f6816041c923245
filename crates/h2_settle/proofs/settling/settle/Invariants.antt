-- The rounds so far were made.
use Rattle.h2_settle.proofs.Driven.{DrivesFor}
use Rattle.h2_settle.proofs.settling.settle.Given as goal

abbrev pub invariant-loop-rounds : goal.invariant-loop-rounds
invariant-loop-rounds l = DrivesFor l.fn.joined l.rounds l.joined
