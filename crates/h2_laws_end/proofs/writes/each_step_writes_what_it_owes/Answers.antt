-- By the lemmas on what steps write.
use Rattle.h2_laws_end.proofs.WrittenSteps.{call_writes, item_writes}
use Rattle.h2_laws_end.proofs.writes.each_step_writes_what_it_owes.Goals as goal

pub returns-clause-call : goal.returns-clause-call
returns-clause-call c = call_writes

pub returns-clause-item : goal.returns-clause-item
returns-clause-item c = item_writes
