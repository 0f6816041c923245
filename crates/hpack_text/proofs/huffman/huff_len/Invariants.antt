use Rattle.hpack_text.proofs.Names.{◌≡◌, ◌*◌, ◌≤◌, length, take, codes}
use Rattle.hpack_text.proofs.huffman.huff_len.Given as goal

abbrev pub invariant-loop-octet : goal.invariant-loop-octet
invariant-loop-octet l = record {
  counted : l.count ≡ length (codes (take l.octet-index l.text));
  most : l.count ≤ 30 * l.octet-index;
}
