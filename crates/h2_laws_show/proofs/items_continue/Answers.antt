-- By the lemma on more frames.
use Rattle.h2_laws_show.proofs.Groupings.{longer_grouping}
use Rattle.h2_laws_show.proofs.items_continue.Goals as goal

pub returns : goal.returns
returns c = longer_grouping
