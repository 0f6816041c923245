-- The pairs so far are appended.
use Rattle.std.proofs.Common.{◌≡◌, ◌≤◌, ◌++◌, take, flat_map, vec_capacity}
use Rattle.h2_frame.specs.Encoding.{pair_octets}
use Rattle.h2_frame.proofs.appending.append_pairs.Given as goal

abbrev pub invariant-loop-id : goal.invariant-loop-id
invariant-loop-id l = record {
  items : l.out.items ≡ l.initial.out.items ++ flat_map pair_octets (take l.id-index l.pairs);
  capacity : vec_capacity l.initial.out ≤ vec_capacity l.out;
}
