-- By the lemma on a stream's window.
use Rattle.h2_laws_log.proofs.WindowsOfTwoEnds.{stream_meets, stream_meets_read}
use Rattle.h2_laws_log.proofs.windows.stream_window_meets.Goals as goal

pub returns : goal.returns
returns c = record { read = stream_meets_read; in_force = stream_meets }
