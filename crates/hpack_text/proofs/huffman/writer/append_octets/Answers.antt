use Rattle.hpack_text.proofs.Names.{refl, arith}
use Rattle.hpack_text.proofs.WriteLemmas.{Appends-none, Appends-push, top_octet}
use Rattle.hpack_text.proofs.huffman.writer.append_octets.Goals as goal

pub loop-count-init : goal.loop-count-init
loop-count-init c = record {
  most = omega (arith, c.args.pending.few);
  within = c.args.pending.within;
  adds = Appends-none _ _;
  counted = refl;
  capacity = omega arith;
}

pub overflow_cast-value : goal.overflow_cast-value
overflow_cast-value c =
    omega (
      arith,
      (top_octet c.loop-count.count c.loop-count.value c.loop-count-test.true (omega arith)
          c.loop-count.invariant.within).small,
    )

pub loop-count-preserved : goal.loop-count-preserved
loop-count-preserved c =
    let top = top_octet c.loop-count.count c.loop-count.value c.loop-count-test.true (omega arith)
    c.loop-count.invariant.within in
    record {
      most = omega arith;
      within = top.within;
      adds = Appends-push _ _ _ _ _ _ _ top.small top.same c.loop-count.invariant.adds
          c.in_ok-push.ensures.items;
      counted = omega (arith, c.in_ok-push.ensures.len);
      capacity = omega arith;
    }
