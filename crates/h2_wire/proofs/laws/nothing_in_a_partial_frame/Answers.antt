-- By the lemmas on partial frames.
use Rattle.h2_wire.proofs.Names.{refl, ◌++◌}
use Rattle.h2_wire.proofs.FaultLemmas.{partial_no_head, partial_no_frame}
use Rattle.h2_wire.proofs.ReadingLemmas.{partial_stops}
use Rattle.h2_wire.proofs.laws.nothing_in_a_partial_frame.Goals as goal

pub returns-clause-frame : goal.returns-clause-frame
returns-clause-frame c = λ limit prefix more frame partial sound.
    partial_stops limit (prefix ++ more) partial frame prefix more refl sound

pub returns-clause-head : goal.returns-clause-head
returns-clause-head c = partial_no_head

pub returns-clause-payload : goal.returns-clause-payload
returns-clause-payload c = λ limit prefix more code partial complete faulty.
    partial_no_frame limit prefix more partial complete
