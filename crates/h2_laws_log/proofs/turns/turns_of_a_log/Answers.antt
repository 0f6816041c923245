-- By the lemma on the turns of every log.
use Rattle.h2_laws_log.proofs.TurnsOfLogs.{turns_report}
use Rattle.h2_laws_log.proofs.turns.turns_of_a_log.Goals as goal

pub returns : goal.returns
returns c = turns_report
