-- No call of the link has failed, and no head has come.
use Rattle.std.proofs.Common.{◌≡◌}
use Rattle.h2_engines.specs.Linked.{traffic}
use Rattle.h2_get.specs.Receives.{HasNoHead}
use Rattle.h2_get.proofs.SeveralParts.{PartsOn}
use Rattle.h2_get.proofs.several.head_on.Given as goal

abbrev pub invariant-loop : goal.invariant-loop
invariant-loop g l =
    record {
      failures : g.L.Link.faults l.link ≡ g.L.Link.faults l.initial.link;
      parts : PartsOn HasNoHead
          (traffic (g.L.Link.given l.initial.link) (g.L.Link.taken l.initial.link)
          (g.L.Link.stalled l.initial.link))
          (traffic (g.L.Link.given l.link) (g.L.Link.taken l.link) (g.L.Link.stalled l.link))
          l.initial.fetch l.fetch l.fn.id l.counter;
    }
