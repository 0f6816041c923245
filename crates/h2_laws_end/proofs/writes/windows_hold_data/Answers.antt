-- By the lemma on the send windows after DATA.
use Rattle.h2_laws_end.proofs.DataWindows.{windows_hold}
use Rattle.h2_laws_end.proofs.writes.windows_hold_data.Goals as goal

pub returns : goal.returns
returns c = windows_hold
