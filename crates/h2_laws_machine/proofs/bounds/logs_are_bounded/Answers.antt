-- By the lemmas on logs.
use Rattle.h2_laws_machine.proofs.BoundedLogs.{few_wait, few_wait_while_up, few_resets, few_active}
use Rattle.h2_laws_machine.proofs.bounds.logs_are_bounded.Goals as goal

pub returns : goal.returns
returns c = assumption (few_wait, few_wait_while_up, few_resets, few_active)
