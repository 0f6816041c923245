use Rattle.hpack_text.proofs.Names.{◌≡◌, length, take, ap, arith, codes}
use Rattle.std.proofs.Common.{take_all}
use Rattle.hpack_text.proofs.CodeLemmas.{length-huffman_bits}
use Rattle.hpack_text.proofs.WriteLemmas.{length-codes-more}
use Rattle.hpack_text.proofs.huffman.huff_len.Goals as goal

pub loop-octet-preserved : goal.loop-octet-preserved
loop-octet-preserved c = record {
  counted = omega (
    arith,
    length-codes-more c.args.text.now c.loop-octet.octet-index c.code_of.result.count
        c.code_of.result.value c.loop-octet-test.true c.code_of.ensures.bits,
  );
  most = omega arith;
}

pub returns : goal.returns
returns c =
    let text = c.args.text.now in
    let all : length (codes (take c.loop-octet.octet-index text)) ≡ length (codes text) =
    ap (λ xs. length (codes xs)) (take_all c.loop-octet.octet-index text c.loop-octet-test.false) in
    omega (arith, c.div_ceil.ensures, length-huffman_bits text)
