-- So many first octets were appended.
use Rattle.std.proofs.Common.{◌≡◌, ◌+◌, ◌-◌, ◌≤◌, ◌++◌, take, vec_len}
use Rattle.std.specs.Vec.{vec_capacity}
use Rattle.h2_output.proofs.queue.Queue.put_out.Given as goal

abbrev pub invariant-loop-given : goal.invariant-loop-given
invariant-loop-given l =
    record {
      within : l.given ≤ l.count;
      given : l.out.items ≡ l.initial.out.items ++ take l.given l.self.items;
      room : vec_len l.out + (l.count - l.given) ≤ vec_capacity l.out;
      capacity : vec_capacity l.initial.out ≤ vec_capacity l.out;
    }

abbrev pub decreases-loop-given : goal.decreases-loop-given
decreases-loop-given l = l.count - l.given
