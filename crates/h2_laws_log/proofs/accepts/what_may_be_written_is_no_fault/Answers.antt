-- By the lemma on what may be written.
use Rattle.h2_laws_log.proofs.AcceptedWrites.{written_lem}
use Rattle.h2_laws_log.proofs.accepts.what_may_be_written_is_no_fault.Goals as goal

pub returns : goal.returns
returns c = written_lem
