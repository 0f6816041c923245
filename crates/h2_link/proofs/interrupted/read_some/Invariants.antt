-- A read that is interrupted takes nothing.
use Rattle.std.specs.Io.KnownBytes.{Keeps}
use Rattle.h2_link.proofs.interrupted.read_some.Given as goal

abbrev pub invariant-loop : goal.invariant-loop
invariant-loop g l = Keeps (g.R.Read.remaining l.initial.input) (g.R.Read.remaining l.input)
