-- By the lemma on what is owed and the connection's window.
use Rattle.h2_laws_machine.proofs.OwedOnStreams.{window_of_a_log}
use Rattle.h2_laws_machine.proofs.windows.connection_window_of_a_log.Goals as goal

pub returns : goal.returns
returns c = window_of_a_log
