-- By the lemma on a new machine.
use Rattle.h2_laws_machine.proofs.NewEnd.{new_represents}
use Rattle.h2_laws_machine.proofs.machine.new_end_represents.Goals as goal

pub returns : goal.returns
returns c = new_represents
