-- By the lemma on outcomes.
use Rattle.h2_laws_show.proofs.Outcomes.{one_output_lem}
use Rattle.h2_laws_show.proofs.one_output.Goals as goal

pub returns : goal.returns
returns c = one_output_lem
