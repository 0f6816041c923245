use Rattle.hpack_text.proofs.Names.{◌≡◌, ◌+◌, ◌*◌, ◌^◌, ◌<◌, ◌≤◌, vec_len, vec_capacity, bits_of}
use Rattle.hpack_text.proofs.Names.{Appends}
use Rattle.hpack_text.proofs.huffman.writer.append_octets.Given as goal

abbrev pub invariant-loop-count : goal.invariant-loop-count
invariant-loop-count l = record {
  most : l.count ≤ 31;
  within : l.value < 2 ^ l.count;
  adds : Appends l.initial.out.items l.out.items (bits_of l.initial.count l.initial.value)
      (bits_of l.count l.value);
  counted : 8 * vec_len l.out + l.count ≡ 8 * vec_len l.initial.out + l.initial.count;
  capacity : vec_capacity l.initial.out ≤ vec_capacity l.out;
}

abbrev pub decreases-loop-count : goal.decreases-loop-count
decreases-loop-count l = l.count
