-- A span that is added counts.
use Rattle.std.proofs.Common.{◌-◌, ap, arith}
use Rattle.h2_output.specs.Woven.{octets_before, octets_shared}
use Rattle.h2_output.specs.declared.span.Span.{Span}
use Rattle.h2_output.proofs.WovenLemmas.{before-append, shared-append}
use Rattle.h2_output.proofs.span.Spans.add.Goals as goal

pub invariant_of-self : goal.invariant_of-self
invariant_of-self c =
    let old = c.args.self.now in
    let span : Span = record {
      before = c.args.queued - old.before;
      octets = c.args.octets;
    } in
    record {
      placed = omega (
        arith,
        ap octets_before c.in-Ok.ensures.items,
        before-append old.all.items span,
        old.placed,
        c.requires,
      );
      counted = omega (
        arith,
        ap octets_shared c.in-Ok.ensures.items,
        shared-append old.all.items span,
        old.counted,
        c.len-length.ensures.value,
      );
      bounded = omega (
        arith,
        c.if-self-len.false,
        c.len.ensures.value,
        c.len-length.ensures.value,
        old.bounded,
      );
    }
