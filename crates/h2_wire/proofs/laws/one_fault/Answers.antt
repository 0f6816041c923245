-- By the lemma on faults.
use Rattle.h2_wire.proofs.FaultLemmas.{one_fault_lem}
use Rattle.h2_wire.proofs.laws.one_fault.Goals as goal

pub returns : goal.returns
returns c = one_fault_lem
