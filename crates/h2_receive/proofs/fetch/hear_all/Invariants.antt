-- No call of the link has failed, and all parts that have come were heard.
use Rattle.h2_engines.proofs.Names.{◌≡◌, traffic}
use Rattle.h2_receive.proofs.Hearing.{HearsOn}
use Rattle.h2_receive.proofs.fetch.hear_all.Given as goal

abbrev pub invariant-loop : goal.invariant-loop
invariant-loop g l =
    record {
      failures : g.L.Link.faults l.link ≡ g.L.Link.faults l.initial.link;
      hears : HearsOn g.H.ResponseHandler.hears l.initial.fetch
          (traffic (g.L.Link.given l.initial.link) (g.L.Link.taken l.initial.link)
          (g.L.Link.stalled l.initial.link))
          (traffic (g.L.Link.given l.link) (g.L.Link.taken l.link) (g.L.Link.stalled l.link))
          l.initial.handler l.handler l.fetch l.counter;
    }
