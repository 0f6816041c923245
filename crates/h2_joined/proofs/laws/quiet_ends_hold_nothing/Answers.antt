-- By the lemma on both ends.
use Rattle.h2_joined.proofs.RunLaws.{hold_nothing}
use Rattle.h2_joined.proofs.laws.quiet_ends_hold_nothing.Goals as goal

pub returns : goal.returns
returns c = hold_nothing
