use Rattle.hpack_text.proofs.Names.{◌≡◌, ◌<◌, take, vec_capacity, bits, ReadsBits}
use Rattle.hpack_text.proofs.huffman.reader.read_text.Given as goal

abbrev pub invariant-loop-octet : goal.invariant-loop-octet
invariant-loop-octet l = record {
  read : ReadsBits l.initial.out.items l.out.items 0 (bits (take l.octet-index l.octets)) l.state;
  small : l.state < 256;
  capacity : vec_capacity l.out ≡ vec_capacity l.initial.out;
}
