use Rattle.hpack_text.proofs.Names.{get_or, refl, arith}
use Rattle.hpack_text.proofs.IntegerLemmas.{octet_added_from, continuation_end}
use Rattle.hpack_text.proofs.integers.read_continuation.Goals as goal

pub overflow_add-value : goal.overflow_add-value
overflow_add-value c =
    let octets = c.args.octets.now in
    let count = c.loop-count.count in
    omega (
      arith,
      (octet_added_from octets count c.loop-count.value (get_or octets count 0) c.from.result
          c.if-count-octets.false c.loop-count-test.true c.loop-count.invariant.number refl
          c.from.ensures).small,
    )

pub returns-then-octet-lt128 : goal.returns-then-octet-lt128
returns-then-octet-lt128 c =
    let octets = c.args.octets.now in
    let count = c.loop-count.count in
    let added = octet_added_from octets count c.loop-count.value (get_or octets count 0)
    c.from.result c.if-count-octets.false c.loop-count-test.true c.loop-count.invariant.number
    refl c.from.ensures in
    record {
      answer =
          continuation_end octets count _ (get_or octets count 0) c.if-count-octets.false
          c.loop-count-test.true c.loop-count.invariant.top refl c.if-octet-lt128.true added;
    }
