-- By the lemma on the items of every log.
use Rattle.h2_laws_end.proofs.Grouped.{items_grouped}
use Rattle.h2_laws_end.proofs.reads.items_are_frames_grouped.Goals as goal

pub returns : goal.returns
returns c = items_grouped
