-- The acts so far are made.
use Rattle.h2_joined.proofs.Names.{take, MakesAll}
use Rattle.h2_joined.proofs.joined.Joined.act_all.Given as goal

abbrev pub invariant-loop-act : goal.invariant-loop-act
invariant-loop-act l = MakesAll l.fn.self (take l.act-index l.acts) l.self
