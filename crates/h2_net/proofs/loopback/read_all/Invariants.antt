-- So many first octets are what the link has given, and no call of it has failed.
use Rattle.std.proofs.Common.{◌≡◌, ◌≤◌, ◌-◌, length, take}
use Rattle.std.specs.Io.KnownBytes.{Appends}
use Rattle.h2_net.proofs.loopback.read_all.Given as goal

abbrev pub invariant-loop-filled : goal.invariant-loop-filled
invariant-loop-filled g l =
    record {
      within : l.filled ≤ length l.room;
      length : length l.room ≡ length l.initial.room;
      given : Appends (g.L.Link.given l.initial.link) (g.L.Link.given l.link)
          (take l.filled l.room);
      failures : g.L.Link.faults l.link ≡ g.L.Link.faults l.initial.link;
    }

abbrev pub decreases-loop-filled : goal.decreases-loop-filled
decreases-loop-filled g l = length l.room - l.filled
