-- By the lemma on longer streams.
use Rattle.h2_laws_show.proofs.LongerStreams.{longer_reading}
use Rattle.h2_laws_show.proofs.frames_continue.Goals as goal

pub returns : goal.returns
returns c = longer_reading
