-- By the lemma.
use Rattle.h2_laws_pair.proofs.StepCalls.{call_gives_nothing}
use Rattle.h2_laws_pair.proofs.steps.calls_give_nothing_out.Goals as goal

pub returns : goal.returns
returns c = call_gives_nothing
