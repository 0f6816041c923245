-- By the lemma on streams.
use Rattle.h2_laws_show.proofs.ReadingsOrFaults.{reading_or_fault_lem}
use Rattle.h2_laws_show.proofs.reading_or_fault.Goals as goal

pub returns : goal.returns
returns c = reading_or_fault_lem
