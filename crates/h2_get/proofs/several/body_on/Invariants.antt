-- No call of the link has failed, and all that has come of the body was written.
use Rattle.std.proofs.Common.{◌≡◌}
use Rattle.h2_engines.specs.Linked.{traffic}
use Rattle.h2_get.proofs.Receiving.{Written}
use Rattle.h2_get.proofs.SeveralParts.{PartsOn}
use Rattle.h2_get.proofs.several.body_on.Given as goal

abbrev pub invariant-loop : goal.invariant-loop
invariant-loop g l =
    record {
      failures : g.L.Link.faults l.link ≡ g.L.Link.faults l.initial.link;
      parts : PartsOn (Written (g.W.Write.contents l.initial.out) (g.W.Write.contents l.out))
          (traffic (g.L.Link.given l.initial.link) (g.L.Link.taken l.initial.link)
          (g.L.Link.stalled l.initial.link))
          (traffic (g.L.Link.given l.link) (g.L.Link.taken l.link) (g.L.Link.stalled l.link))
          l.initial.fetch l.fetch l.fn.id l.counter;
    }
