-- By the lemma on the replies of every log.
use Rattle.h2_laws_end.proofs.Replies.{replies_of_logs}
use Rattle.h2_laws_end.proofs.writes.each_is_replied_to.Goals as goal

pub returns : goal.returns
returns c = replies_of_logs
