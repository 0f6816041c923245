-- So many first octets are written, and each round writes one at least.
use Rattle.std.proofs.Common.{◌-◌, ◌≤◌, length, take}
use Rattle.std.specs.Io.KnownBytes.{Appends}
use Rattle.h2_get.proofs.receive.write_first.Given as goal

abbrev pub invariant-loop-written : goal.invariant-loop-written
invariant-loop-written g l = record {
  within : l.written ≤ length l.octets;
  written : Appends (g.W.Write.contents l.initial.out) (g.W.Write.contents l.out)
      (take l.written l.octets);
}

abbrev pub decreases-loop-written : goal.decreases-loop-written
decreases-loop-written g l = length l.octets - l.written
