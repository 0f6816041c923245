-- By the lemma on frames.
use Rattle.h2_frame.proofs.FrameLemmas.{one_frame_lem}
use Rattle.h2_frame.proofs.laws.one_frame.Goals as goal

pub returns : goal.returns
returns c = one_frame_lem
