-- By the lemmas on what failed a log.
use Rattle.h2_laws_why.proofs.OneReason.{one_why, one_said}
use Rattle.h2_laws_why.proofs.one_reason.Goals as goal

pub returns : goal.returns
returns c = record { one = one_why; whys = one_said }
