-- By the lemma on what begins the output.
use Rattle.h2_laws_end.proofs.OutputPrefixes.{output_begins_within}
use Rattle.h2_laws_end.proofs.pieces.prefix_of_the_output.Goals as goal

pub returns : goal.returns
returns c = output_begins_within
