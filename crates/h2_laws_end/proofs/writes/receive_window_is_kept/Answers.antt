-- By the lemma on what stands of each stream.
use Rattle.h2_laws_end.proofs.ReceiveWindowCalls.{window_is_initial}
use Rattle.h2_laws_end.proofs.writes.receive_window_is_kept.Goals as goal

pub returns : goal.returns
returns c = window_is_initial
