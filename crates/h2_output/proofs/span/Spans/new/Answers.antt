-- Without spans there is nothing to count.
use Rattle.std.proofs.Common.{ap, sym, arith}
use Rattle.h2_output.specs.Woven.{octets_before, octets_shared}
use Rattle.h2_output.proofs.span.Spans.new.Goals as goal

pub invariant_of-result : goal.invariant_of-result
unfolding octets_before octets_shared
invariant_of-result c =
    record {
      placed = sym (ap octets_before c.new.ensures.items);
      counted = sym (ap octets_shared c.new.ensures.items);
      bounded = omega arith;
    }
