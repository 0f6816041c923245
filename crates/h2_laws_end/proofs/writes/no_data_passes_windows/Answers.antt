-- By the lemma on what every log keeps.
use Rattle.h2_laws_end.proofs.WithinWindows.{keeps_windows}
use Rattle.h2_laws_end.proofs.writes.no_data_passes_windows.Goals as goal

pub returns : goal.returns
returns c = keeps_windows
