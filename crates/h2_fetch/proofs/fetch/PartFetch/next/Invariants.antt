-- No call of the link has failed, and the client fetches still, with no part of the response.
use Rattle.h2_engines.proofs.Names.{◌≡◌, traffic}
use Rattle.h2_fetch.proofs.Comings.{NextOn}
use Rattle.h2_fetch.proofs.fetch.PartFetch.next.Given as goal

abbrev pub invariant-loop : goal.invariant-loop
invariant-loop g l =
    record {
      failures : g.L.Link.faults l.link ≡ g.L.Link.faults l.initial.link;
      stream : l.self.id ≡ l.initial.self.id;
      next : NextOn
          (traffic (g.L.Link.given l.initial.link) (g.L.Link.taken l.initial.link)
          (g.L.Link.stalled l.initial.link))
          (traffic (g.L.Link.given l.link) (g.L.Link.taken l.link) (g.L.Link.stalled l.link))
          l.initial.self l.self l.counter;
    }
