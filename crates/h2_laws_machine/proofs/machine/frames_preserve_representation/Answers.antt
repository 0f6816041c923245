-- By the lemma on frames.
use Rattle.h2_laws_machine.proofs.EveryStep.{frames_represent}
use Rattle.h2_laws_machine.proofs.machine.frames_preserve_representation.Goals as goal

pub returns : goal.returns
returns c = frames_represent
