-- By the lemma on blocks that open streams.
use Rattle.h2_laws_log.proofs.AcceptedOpenings.{opening_lem}
use Rattle.h2_laws_log.proofs.accepts.opening_is_no_fault.Goals as goal

pub returns : goal.returns
returns c = opening_lem
