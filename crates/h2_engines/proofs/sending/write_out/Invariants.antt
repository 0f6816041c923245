-- No call of the link has failed, and it took all that the end has given out, in so many rounds.
use Rattle.h2_engines.proofs.Names.{◌≡◌, traffic}
use Rattle.h2_engines.proofs.MachineWrites.{WritesFrom}
use Rattle.h2_engines.proofs.sending.write_out.Given as goal

abbrev pub invariant-loop : goal.invariant-loop
invariant-loop g l =
    record {
      failures : g.L.Link.faults l.link ≡ g.L.Link.faults l.initial.link;
      writes : WritesFrom
          (traffic (g.L.Link.given l.initial.link) (g.L.Link.taken l.initial.link)
          (g.L.Link.stalled l.initial.link))
          (traffic (g.L.Link.given l.link) (g.L.Link.taken l.link) (g.L.Link.stalled l.link))
          l.initial.end.end l.end.end l.counter;
    }
