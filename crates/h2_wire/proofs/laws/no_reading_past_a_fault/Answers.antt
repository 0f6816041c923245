-- By the lemma on faults and readings.
use Rattle.h2_wire.proofs.FaultLemmas.{no_reading_lem}
use Rattle.h2_wire.proofs.laws.no_reading_past_a_fault.Goals as goal

pub returns : goal.returns
returns c = no_reading_lem
