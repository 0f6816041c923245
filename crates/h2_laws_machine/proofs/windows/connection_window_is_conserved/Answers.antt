-- By the lemma on what is owed and the connection's window.
use Rattle.h2_laws_machine.proofs.OwedOnStreams.{window_is_conserved}
use Rattle.h2_laws_machine.proofs.windows.connection_window_is_conserved.Goals as goal

pub returns : goal.returns
returns c = window_is_conserved
