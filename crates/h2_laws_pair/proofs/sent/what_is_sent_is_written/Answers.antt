-- By the lemma on every log.
use Rattle.h2_laws_pair.proofs.Names.{sym}
use Rattle.h2_laws_pair.proofs.HeardSent.{tokens_carried}
use Rattle.h2_laws_pair.proofs.sent.what_is_sent_is_written.Goals as goal

pub returns : goal.returns
returns c = λ role values log i is. sym (tokens_carried i role values log is)
