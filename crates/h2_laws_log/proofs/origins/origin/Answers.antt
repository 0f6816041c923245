-- By the lemma on origins.
use Rattle.h2_laws_log.proofs.AllowedHistories.{origin_lem}
use Rattle.h2_laws_log.proofs.origins.origin.Goals as goal

pub returns : goal.returns
returns c = origin_lem
