use Rattle.hpack_text.proofs.Names.{List, ℕ, length, length-append, ap, ◌∙◌, arith, on_ok_weaker}
use Rattle.hpack_text.proofs.Names.{on_err_weaker, integer}
use Rattle.hpack_text.proofs.StringLemmas.{huffman_parts, raw_parts, no_room, full_on_err}
use Rattle.hpack_text.proofs.WriteLemmas.{OnErr-from}
use Rattle.hpack_text.proofs.strings.append_string.Goals as goal

pub returns-in_err-write_int-clause-full : goal.returns-in_err-write_int-clause-full
returns-in_err-write_int-clause-full c =
    let full = no_room _ _ c.in_err-write_int.ensures.room in
    OnErr-from c.from_residual.result
    (omega (
      arith,
      full,
      (huffman_parts c.args.text.now c.huff_len-huffman_len.result c.huff_len-huffman_len.ensures
          c.if-huffman_len-text.true).counted,
    ))

pub returns-then-huffman_len-text-clause-ok : goal.returns-then-huffman_len-text-clause-ok
returns-then-huffman_len-text-clause-ok c =
    let parts = huffman_parts c.args.text.now c.huff_len-huffman_len.result
    c.huff_len-huffman_len.ensures c.if-huffman_len-text.true in
    on_ok_weaker c.huff_write.result (λ e. parts.appended _ _ _ c.in_ok-write_int.ensures.ok e)
    c.huff_write.ensures.ok

pub returns-then-huffman_len-text-clause-full : goal.returns-then-huffman_len-text-clause-full
returns-then-huffman_len-text-clause-full c =
    let parts = huffman_parts c.args.text.now c.huff_len-huffman_len.result
    c.huff_len-huffman_len.ensures c.if-huffman_len-text.true in
    let written = ap (λ (xs : List ℕ). length xs) c.in_ok-write_int.ensures.ok
    ∙ length-append c.args.out.now.items (integer 7 128 c.huff_len-huffman_len.result) in
    on_err_weaker c.huff_write.result
    (λ full. omega (
      arith,
      full,
      written,
      parts.counted,
      c.write_int.ensures.capacity,
      c.args.out.now.ok.0,
      c.write_int.new.out.ok.0,
    ))
    (full_on_err c.huff_write.result _ _ c.huff_write.ensures.room)

pub returns-in_err-write_int-2-clause-full : goal.returns-in_err-write_int-2-clause-full
returns-in_err-write_int-2-clause-full c =
    let full = no_room _ _ c.in_err-write_int-2.ensures.room in
    OnErr-from c.from_residual-in_err-write_int-2.result
    (omega (
      arith,
      full,
      (raw_parts c.args.text.now c.huff_len-huffman_len.result c.huff_len-huffman_len.ensures
          c.if-huffman_len-text.false).counted,
    ))

pub returns-clause-ok : goal.returns-clause-ok
returns-clause-ok c =
    let parts = raw_parts c.args.text.now c.huff_len-huffman_len.result
    c.huff_len-huffman_len.ensures c.if-huffman_len-text.false in
    parts.appended _ _ _ c.in_ok-write_int-2.ensures.ok c.in_ok-extend_from_slice.ensures.items

pub returns-in_err-extend_from_slice-clause-full : goal.returns-in_err-extend_from_slice-clause-full
returns-in_err-extend_from_slice-clause-full c =
    let parts = raw_parts c.args.text.now c.huff_len-huffman_len.result
    c.huff_len-huffman_len.ensures c.if-huffman_len-text.false in
    let written = ap (λ (xs : List ℕ). length xs) c.in_ok-write_int-2.ensures.ok
    ∙ length-append c.args.out.now.items (integer 7 0 (length c.args.text.now)) in
    OnErr-from c.from_residual-in_err-extend_from_slice.result
    (omega (
      arith,
      c.in_err-extend_from_slice.ensures.full,
      written,
      parts.counted,
      c.write_int-2.ensures.capacity,
      c.args.out.now.ok.0,
      c.write_int-2.new.out.ok.0,
    ))
