-- By the lemma on PING.
use Rattle.h2_laws_log.proofs.AcceptedItems.{ping_lem}
use Rattle.h2_laws_log.proofs.accepts.ping_is_no_fault.Goals as goal

pub returns : goal.returns
returns c = ping_lem
