-- By the lemma on longer streams at fault.
use Rattle.h2_laws_show.proofs.LongerStreams.{longer_fault}
use Rattle.h2_laws_show.proofs.frames_before_a_fault_continue.Goals as goal

pub returns : goal.returns
returns c = longer_fault
