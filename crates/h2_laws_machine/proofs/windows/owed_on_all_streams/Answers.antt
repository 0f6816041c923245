-- By the lemma on what is owed and the connection's window.
use Rattle.h2_laws_machine.proofs.OwedOnStreams.{owed_on_all}
use Rattle.h2_laws_machine.proofs.windows.owed_on_all_streams.Goals as goal

pub returns : goal.returns
returns c = owed_on_all
