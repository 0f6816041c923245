-- By the lemmas on steps.
use Rattle.h2_laws_machine.proofs.EveryStep.{steps_represent, every_log_has_machine}
use Rattle.h2_laws_machine.proofs.machine.steps_preserve_representation.Goals as goal

pub returns : goal.returns
returns c = assumption (steps_represent, every_log_has_machine)
