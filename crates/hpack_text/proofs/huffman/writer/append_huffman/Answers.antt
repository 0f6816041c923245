use Rattle.hpack_text.proofs.Names.{arith, on_ok_weaker, on_err_weaker}
use Rattle.hpack_text.proofs.WriteLemmas.{OnErr-from, Appends-all, Appends-join, written_text}
use Rattle.hpack_text.proofs.WriteLemmas.{no_room_between, no_room_after}
use Rattle.hpack_text.proofs.huffman.writer.append_huffman.Goals as goal

pub returns-in_err-pending-clause-full : goal.returns-in_err-pending-clause-full
returns-in_err-pending-clause-full c =
    let lender = c.loop-octet in
    let no_room =
    no_room_between c.args.out.now.items lender.out.items c.args.text.now lender.octet-index
    lender.pending.count lender.pending.value
    c.code_of.result.count c.code_of.result.value lender.out.cap lender.invariant.adds
    c.loop-octet-test.true c.code_of.ensures.bits
    (omega (arith, c.in_err-pending.ensures.full, lender.out.ok.0)) in
    OnErr-from c.from_residual.result
    (omega (arith, no_room, c.args.out.now.ok.0, lender.invariant.capacity))

pub returns-in_err-last-clause-full : goal.returns-in_err-last-clause-full
returns-in_err-last-clause-full c =
    let adds = Appends-all _ _ c.args.text.now c.loop-octet.octet-index _ c.loop-octet-test.false
    c.loop-octet.invariant.adds in
    let no_room = no_room_after _ _ c.args.text.now _ _ c.loop-octet.out.cap adds
    (omega (arith, c.in_err-last.ensures.full, c.loop-octet.out.ok.0)) in
    OnErr-from c.from_residual-in_err-last.result
    (omega (arith, no_room, c.args.out.now.ok.0, c.loop-octet.invariant.capacity))

pub returns-clause-ok : goal.returns-clause-ok
returns-clause-ok c =
    let adds = Appends-join _ _ _ _ _ _
    (Appends-all _ _ c.args.text.now c.loop-octet.octet-index _ c.loop-octet-test.false
    c.loop-octet.invariant.adds) c.in_ok-last.ensures.ok in
    on_ok_weaker c.append_padded.result (λ padded. written_text _ _ _ c.args.text.now _ adds padded)
    c.append_padded.ensures.ok

pub returns-clause-full : goal.returns-clause-full
returns-clause-full c =
    let adds = Appends-join _ _ _ _ _ _
    (Appends-all _ _ c.args.text.now c.loop-octet.octet-index _ c.loop-octet-test.false
    c.loop-octet.invariant.adds) c.in_ok-last.ensures.ok in
    on_err_weaker c.append_padded.result (λ full.
    let no_room = no_room_after _ _ c.args.text.now _ _ c.append_octets.new.out.cap adds
    (omega (arith, full, c.append_octets.new.out.ok.0)) in
    omega (
      arith,
      no_room,
      c.args.out.now.ok.0,
      c.loop-octet.invariant.capacity,
      c.append_octets.ensures.capacity,
      c.append_octets.new.out.ok.0,
      c.loop-octet.out.ok.0,
    ))
    c.append_padded.ensures.full
