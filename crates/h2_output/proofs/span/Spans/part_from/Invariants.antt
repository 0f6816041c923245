-- What is left after the octets that were passed, and what of the queue.
use Rattle.std.proofs.Common.{◌≡◌, ◌≤◌, length, drop}
use Rattle.h2_output.specs.Woven.{weave, octets_before}
use Rattle.h2_output.proofs.span.Spans.part_from.Given as goal

abbrev pub invariant-loop-i : goal.invariant-loop-i
invariant-loop-i l =
    record {
      fits : octets_before (drop l.i l.self.all.items) ≤ length l.rest;
      woven : drop l.at (weave l.self.all.items l.queue)
          ≡ drop l.left (weave (drop l.i l.self.all.items) l.rest);
    }
