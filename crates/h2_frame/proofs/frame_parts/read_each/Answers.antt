-- The pair that is read has 16 and 32 bits.
use Rattle.std.proofs.Common.{arith}
use Rattle.h2_frame.proofs.FramePartsLemmas.{ArePairs-more}
use Rattle.h2_frame.proofs.frame_parts.read_each.Goals as goal

pub loop-id-preserved : goal.loop-id-preserved
loop-id-preserved c =
    ArePairs-more c.args.pairs.now c.loop-id.id-index c.loop-id-test.true c.loop-id.invariant
    (omega arith) (omega arith)
