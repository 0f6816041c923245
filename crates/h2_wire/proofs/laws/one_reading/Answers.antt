-- By the lemma on readings.
use Rattle.h2_wire.proofs.FaultLemmas.{one_reading_lem}
use Rattle.h2_wire.proofs.laws.one_reading.Goals as goal

pub returns : goal.returns
returns c = one_reading_lem
