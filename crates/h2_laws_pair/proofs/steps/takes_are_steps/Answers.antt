-- By the lemma.
use Rattle.h2_laws_pair.proofs.StepTakes.{take_is_steps}
use Rattle.h2_laws_pair.proofs.steps.takes_are_steps.Goals as goal

pub returns : goal.returns
returns c = take_is_steps
