-- So many octets of the piece were used and no call of the link has failed; and the machine that it
-- was at first is driven now, with a turn at least in each round.
use Rattle.h2_engines.proofs.Names.{◌≡◌, ◌≤◌, length, drop, traffic}
use Rattle.h2_engines.specs.declared.request.Next.TheVariants.{Again}
use Rattle.h2_engines.proofs.MachineTakes.{TakesOn}
use Rattle.h2_engines.proofs.machine.take_all.Given as goal

abbrev pub invariant-loop : goal.invariant-loop
invariant-loop g l =
    record {
      within : l.used ≤ length l.piece;
      failures : g.L.Link.faults l.link ≡ g.L.Link.faults l.initial.link;
      takes : TakesOn l.writes l.counter
          (traffic (g.L.Link.given l.initial.link) (g.L.Link.taken l.initial.link)
          (g.L.Link.stalled l.initial.link))
          (traffic (g.L.Link.given l.link) (g.L.Link.taken l.link) (g.L.Link.stalled l.link))
          (g.M.Machine.held l.initial.machine) (g.M.Machine.held l.machine) l.piece
          (drop l.used l.piece) Again;
    }
