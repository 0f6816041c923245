-- By the lemma on acknowledgments.
use Rattle.h2_laws_log.proofs.AcceptedItems.{acknowledgment_lem}
use Rattle.h2_laws_log.proofs.accepts.acknowledgment_is_awaited.Goals as goal

pub returns : goal.returns
returns c =
    λ role received sent unread log with_sent allowed reader. acknowledgment_lem role received sent
    unread log allowed.0 reader
