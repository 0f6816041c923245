-- By the lemmas on frames and items.
use Rattle.h2_laws_machine.proofs.AlikeFrames.{step_alike, verdict_alike, events_alike}
use Rattle.h2_laws_machine.proofs.answers.frames_are_taken_alike.Goals as goal

pub returns : goal.returns
returns c = assumption (step_alike, verdict_alike, events_alike)
