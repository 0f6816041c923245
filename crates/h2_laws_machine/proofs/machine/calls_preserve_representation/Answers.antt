-- By the lemmas on refusals and on each call.
use Rattle.h2_laws_machine.proofs.CallRefusals.{refusal_same}
use Rattle.h2_laws_machine.proofs.FreshNumbers.{calls_represent}
use Rattle.h2_laws_machine.proofs.machine.calls_preserve_representation.Goals as goal

pub returns : goal.returns
returns c = assumption (refusal_same, calls_represent)
