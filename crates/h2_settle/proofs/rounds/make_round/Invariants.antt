-- The acts so far were made.
use Rattle.std.proofs.Common.{take}
use Rattle.h2_settle.proofs.ActsMade.{MakesSoFar}
use Rattle.h2_settle.proofs.rounds.make_round.Given as goal

abbrev pub invariant-loop-act : goal.invariant-loop-act
invariant-loop-act l = MakesSoFar l.fn.joined (take l.act-index l.act-items) l.joined
