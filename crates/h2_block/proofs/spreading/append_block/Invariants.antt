use Rattle.std.proofs.Common.{◌≤◌, length, vec_capacity}
use Rattle.h2_block.specs.Spread.{spread_frames, encoding_of_frames}
use Rattle.h2_block.proofs.SpreadLemmas.{IsSoFar}
use Rattle.h2_block.proofs.spreading.append_block.Given as goal

abbrev pub invariant-loop-rest : goal.invariant-loop-rest
invariant-loop-rest l = record {
  so_far : IsSoFar l.most l.fn.out.items l.out.items
      (encoding_of_frames (spread_frames l.most l.stream l.end l.octets)) l.stream l.rest;
  capacity : vec_capacity l.fn.out ≤ vec_capacity l.out;
}

abbrev pub decreases-loop-rest : goal.decreases-loop-rest
decreases-loop-rest l = length l.rest
