-- So many first octets are written, and each round writes one at least.
use Rattle.std.proofs.Common.{◌-◌, ◌≤◌, length, take}
use Rattle.std.specs.Io.KnownBytes.{Appends}
use Rattle.h2_net.proofs.sending.send.Given as goal

abbrev pub invariant-loop-sent : goal.invariant-loop-sent
invariant-loop-sent g l = record {
  within : l.sent ≤ length l.octets;
  written : Appends (g.W.Write.contents l.initial.out) (g.W.Write.contents l.out)
      (take l.sent l.octets);
}

abbrev pub decreases-loop-sent : goal.decreases-loop-sent
decreases-loop-sent g l = length l.octets - l.sent
