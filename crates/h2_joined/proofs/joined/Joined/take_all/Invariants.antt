-- So far what has happened is that of the octets that were taken, by a call a round.
use Rattle.h2_joined.proofs.CodeRounds.{TakesSoFar}
use Rattle.h2_joined.proofs.joined.Joined.take_all.Given as goal

abbrev pub invariant-loop-round : goal.invariant-loop-round
invariant-loop-round l = TakesSoFar l.to l.fn.self l.octets l._round l.taken l.self
