use Rattle.h2_mio.specs.DriverRuns.{MakesTurn}
use Rattle.h2_mio.proofs.turn.write_output.Given as goal

-- Such steps were made, and what the transport has taken has gone.
abbrev pub invariant-loop : goal.invariant-loop
invariant-loop g l =
    MakesTurn g.P.Party.steps g.P.Party.held_of g.P.Party.output_of l.fn.token
    (g.S.Transport.given l.fn.stream) (g.S.Transport.given l.stream)
    (g.S.Transport.taken l.fn.stream) (g.S.Transport.taken l.stream) l.host l.fn.host
