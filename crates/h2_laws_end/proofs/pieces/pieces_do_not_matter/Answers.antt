-- By the lemma on logs with one script.
use Rattle.h2_laws_end.proofs.RunsOfLogs.{same_but_turns}
use Rattle.h2_laws_end.proofs.pieces.pieces_do_not_matter.Goals as goal

pub returns : goal.returns
returns c = same_but_turns
