use Rattle.hpack_text.proofs.Names.{arith}
use Rattle.hpack_text.proofs.IntegerWriting.{continuation_left-begin, continuation_left-push}
use Rattle.hpack_text.proofs.IntegerWriting.{continuation_left-last, continuation_left-full}
use Rattle.hpack_text.proofs.WriteLemmas.{OnErr-from}
use Rattle.hpack_text.proofs.integers.append_continuation.Goals as goal

pub loop-remaining-init : goal.loop-remaining-init
loop-remaining-init c =
    record {
      left = continuation_left-begin c.args.out.now.items c.args.number c.requires;
      capacity = omega arith;
    }

pub loop-remaining-preserved : goal.loop-remaining-preserved
loop-remaining-preserved c = record {
  left = continuation_left-push _ _ _ _ _ c.loop-remaining-test.true c.loop-remaining.invariant.left
      c.in_ok-push.ensures.items;
  capacity = omega arith;
}

pub returns-in_err-push-clause-full : goal.returns-in_err-push-clause-full
returns-in_err-push-clause-full c =
    let no_room =
    continuation_left-full _ _ _ _ c.loop-remaining.out.cap c.loop-remaining.invariant.left
    (omega (arith, c.in_err-push.ensures.full, c.loop-remaining.out.ok.0)) in
    OnErr-from c.from_residual.result
    (omega (arith, no_room, c.args.out.now.ok.0, c.loop-remaining.invariant.capacity))

pub returns-in_err-push-2-clause-full : goal.returns-in_err-push-2-clause-full
returns-in_err-push-2-clause-full c =
    let no_room =
    continuation_left-full _ _ _ _ c.loop-remaining.out.cap c.loop-remaining.invariant.left
    (omega (arith, c.in_err-push-2.ensures.full, c.loop-remaining.out.ok.0)) in
    OnErr-from c.from_residual-in_err-push-2.result
    (omega (arith, no_room, c.args.out.now.ok.0, c.loop-remaining.invariant.capacity))

pub returns-clause-ok : goal.returns-clause-ok
returns-clause-ok c =
    continuation_left-last _ _ _ _ _ c.loop-remaining-test.false c.loop-remaining.invariant.left
    c.in_ok-push-2.ensures.items
