-- By the lemma on GOAWAY.
use Rattle.h2_laws_log.proofs.AcceptedItems.{goaway_lem}
use Rattle.h2_laws_log.proofs.accepts.goaway_is_no_fault.Goals as goal

pub returns : goal.returns
returns c = goaway_lem
