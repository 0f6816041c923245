-- No call of the link has failed, there is room for input, and the machine that it was at first
-- goes on, with a turn at least in each round.
use Rattle.h2_engines.proofs.Names.{◌≡◌, length, traffic}
use Rattle.h2_engines.proofs.MachineDrives.{DrivesOn}
use Rattle.h2_engines.proofs.machine.drive.Given as goal

abbrev pub invariant-loop : goal.invariant-loop
invariant-loop g l =
    record {
      failures : g.L.Link.faults l.link ≡ g.L.Link.faults l.fn.link;
      room : length l.input.items ≡ 16384;
      drives : DrivesOn
          (traffic (g.L.Link.given l.fn.link) (g.L.Link.taken l.fn.link)
          (g.L.Link.stalled l.fn.link))
          (traffic (g.L.Link.given l.link) (g.L.Link.taken l.link) (g.L.Link.stalled l.link))
          (g.M.Machine.held l.fn.machine) (g.M.Machine.held l.machine) l.counter;
    }
