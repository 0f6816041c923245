-- By the lemma on the connection's window.
use Rattle.h2_laws_log.proofs.WindowsOfTwoEnds.{connection_meets}
use Rattle.h2_laws_log.proofs.windows.connection_window_meets.Goals as goal

pub returns : goal.returns
returns c = connection_meets
