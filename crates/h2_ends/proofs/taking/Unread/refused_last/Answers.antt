use Rattle.h2_ends.proofs.Names.{refl}
use Rattle.h2_ends.specs.Taking.{refused_last}
use Rattle.h2_ends.proofs.taking.Unread.refused_last.Goals as goal

pub returns-in-Malformed : goal.returns-in-Malformed
unfolding refused_last
returns-in-Malformed c = rw c.in-Malformed.is c.named_on.ensures

pub returns-in-OutOfMemory : goal.returns-in-OutOfMemory
unfolding refused_last
returns-in-OutOfMemory c = rw c.in-OutOfMemory.is refl
