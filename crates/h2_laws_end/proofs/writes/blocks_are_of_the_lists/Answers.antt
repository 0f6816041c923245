-- By the lemma on the blocks of every log.
use Rattle.h2_laws_end.proofs.Sendings.{log_sent}
use Rattle.h2_laws_end.proofs.writes.blocks_are_of_the_lists.Goals as goal

pub returns : goal.returns
returns c = log_sent
