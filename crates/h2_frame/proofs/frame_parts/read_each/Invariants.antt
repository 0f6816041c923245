-- The pairs so far were read.
use Rattle.std.proofs.Common.{take}
use Rattle.h2_frame.specs.FrameParts.{ArePairs}
use Rattle.h2_frame.proofs.frame_parts.read_each.Given as goal

abbrev pub invariant-loop-id : goal.invariant-loop-id
invariant-loop-id l = ArePairs (take l.id-index l.pairs)
