-- No call of the link has failed, there is room for input, and it is served, in so many rounds.
use Rattle.h2_engines.proofs.Names.{◌≡◌, length, traffic}
use Rattle.h2_serve.proofs.Serving.{ServesFrom}
use Rattle.h2_serve.proofs.serve.drive.Given as goal

abbrev pub invariant-loop : goal.invariant-loop
invariant-loop g l =
    record {
      failures : g.L.Link.faults l.link ≡ g.L.Link.faults l.initial.link;
      room : length l.input ≡ length l.initial.input;
      drives : ServesFrom
          g.H.Handler
          (traffic (g.L.Link.given l.initial.link) (g.L.Link.taken l.initial.link)
          (g.L.Link.stalled l.initial.link))
          (traffic (g.L.Link.given l.link) (g.L.Link.taken l.link) (g.L.Link.stalled l.link))
          l.initial.connection l.connection l.counter;
    }
