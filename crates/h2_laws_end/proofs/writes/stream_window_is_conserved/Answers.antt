-- By the lemma on the windows of two ends.
use Rattle.h2_laws_end.proofs.ConservedWindows.{window_conserved}
use Rattle.h2_laws_end.proofs.writes.stream_window_is_conserved.Goals as goal

pub returns : goal.returns
returns c = window_conserved
