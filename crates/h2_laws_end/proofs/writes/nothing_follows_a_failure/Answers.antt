-- By the lemmas on failures.
use Rattle.h2_laws_end.proofs.Failures.{failed_last, same_output}
use Rattle.h2_laws_end.proofs.writes.nothing_follows_a_failure.Goals as goal

pub returns-clause-last : goal.returns-clause-last
returns-clause-last c = failed_last

pub returns-clause-calls : goal.returns-clause-calls
returns-clause-calls c = λ log code act answer failed may.
    (same_output log code act answer failed may).written
