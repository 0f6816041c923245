use Rattle.hpack.proofs.Names.{take, refl, subst, sym, arith, err_from_is_err_and, Entries}
use Rattle.hpack.proofs.Names.{after_maxima, UpdatesSoFar}
use Rattle.hpack.proofs.PrefixLemmas.{octets_after, split_at_count}
use Rattle.hpack.proofs.BlockLemmas.{updates_fault, updates_above, updates_more, update_read}
use Rattle.hpack.proofs.decode.updates.apply_updates.Goals as goal

pub returns-in_err-maximum-clause-fault : goal.returns-in_err-maximum-clause-fault
returns-in_err-maximum-clause-fault c =
    let p = err_from_is_err_and c.from_residual.result c.from_residual.ensures.1 in
    rw (p.1, p.2) (updates_fault c.args.table.now
    (after_maxima c.args.table.now c.loop-unparsed.maxima) c.args.limit
    c.args.octets.now c.loop-unparsed.unparsed.now _ (c.loop-unparsed-test.ensures.0 refl)
    c.loop-unparsed.invariant c.in_err-maximum.ensures.fault)

pub returns-then-maximum-from-clause-fault : goal.returns-then-maximum-from-clause-fault
returns-then-maximum-from-clause-fault c =
    let unparsed = c.loop-unparsed.unparsed.now in
    let count = c.in_ok-maximum.count in
    updates_above c.args.table.now (after_maxima c.args.table.now c.loop-unparsed.maxima)
    c.args.limit c.in_ok-maximum.maximum
    c.args.octets.now unparsed (take count unparsed) (octets_after unparsed count)
    (split_at_count unparsed count)
    (update_read c.in_ok-maximum.maximum count unparsed (c.loop-unparsed-test.ensures.0 refl)
    c.in_ok-maximum.ensures.ok.1) (omega (arith, c.from.ensures, c.if-maximum-from.true))
    c.loop-unparsed.invariant

pub loop-unparsed-preserved : goal.loop-unparsed-preserved
loop-unparsed-preserved c =
    let unparsed = c.loop-unparsed.unparsed.now in
    let count = c.in_ok-maximum.count in
    subst (λ (t : Entries). UpdatesSoFar c.args.table.now c.args.limit c.args.octets.now t
    (octets_after unparsed count)) (sym (c.with_maximum.ensures c.args.table.now))
    (updates_more c.args.table.now (after_maxima c.args.table.now c.loop-unparsed.maxima)
    c.args.limit c.in_ok-maximum.maximum
    c.args.octets.now unparsed (take count unparsed) (octets_after unparsed count)
    (split_at_count unparsed count)
    (update_read c.in_ok-maximum.maximum count unparsed (c.loop-unparsed-test.ensures.0 refl)
    c.in_ok-maximum.ensures.ok.1) (omega (arith, c.from.ensures, c.if-maximum-from.false))
    c.loop-unparsed.invariant)
