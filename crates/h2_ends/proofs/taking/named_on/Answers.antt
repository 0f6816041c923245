use Rattle.h2_ends.proofs.Names.{refl}
use Rattle.h2_ends.specs.EndTakes.{named_on}
use Rattle.h2_ends.proofs.taking.named_on.Goals as goal

pub returns-in-Some : goal.returns-in-Some
unfolding named_on
returns-in-Some c = rw c.in-Some.is refl

pub returns-in-None : goal.returns-in-None
unfolding named_on
returns-in-None c = rw c.in-None.is refl
