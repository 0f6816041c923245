use Rattle.hpack_text.proofs.Names.{◌≤◌, take, vec_capacity, bits_of, codes, Appends}
use Rattle.hpack_text.proofs.huffman.writer.append_huffman.Given as goal

abbrev pub invariant-loop-octet : goal.invariant-loop-octet
invariant-loop-octet l = record {
  adds : Appends l.initial.out.items l.out.items (codes (take l.octet-index l.text))
      (bits_of l.pending.count l.pending.value);
  capacity : vec_capacity l.initial.out ≤ vec_capacity l.out;
}
