-- No call of the link has failed, and the client sends on, in so many rounds.
use Rattle.h2_engines.proofs.Names.{◌≡◌, traffic}
use Rattle.h2_fetch.proofs.SendingRounds.{SendsFrom}
use Rattle.h2_fetch.proofs.sending.send_all.Given as goal

abbrev pub invariant-loop : goal.invariant-loop
invariant-loop g l =
    record {
      failures : g.L.Link.faults l.link ≡ g.L.Link.faults l.initial.link;
      sends : SendsFrom l.fn.credit
          (traffic (g.L.Link.given l.initial.link) (g.L.Link.taken l.initial.link)
          (g.L.Link.stalled l.initial.link))
          (traffic (g.L.Link.given l.link) (g.L.Link.taken l.link) (g.L.Link.stalled l.link))
          l.initial.client.end l.client.end l.counter;
    }
