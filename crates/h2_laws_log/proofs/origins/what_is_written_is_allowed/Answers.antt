-- By the lemma on what stands of every log.
use Rattle.h2_laws_log.proofs.InvariantLogs.{written_is_allowed}
use Rattle.h2_laws_log.proofs.origins.what_is_written_is_allowed.Goals as goal

pub returns : goal.returns
returns c = written_is_allowed
