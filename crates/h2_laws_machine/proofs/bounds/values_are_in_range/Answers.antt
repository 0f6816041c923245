-- By the lemmas on each step.
use Rattle.h2_laws_machine.proofs.Names.{new_end, after_call, fail, close_unprocessed}
use Rattle.h2_laws_machine.proofs.RangesOfSteps.{new_fits, call_fits, frame_in_range, fits}
use Rattle.h2_laws_machine.proofs.RangesOfSteps.{are_in_range, closed_fits}
use Rattle.h2_laws_machine.proofs.bounds.values_are_in_range.Goals as goal

pub returns-clause-begins : goal.returns-clause-begins
returns-clause-begins c role values in_range =
    are_in_range (new_end role values) (new_fits role values in_range)

pub returns-clause-frame : goal.returns-clause-frame
returns-clause-frame c e decoded frame up most seen h = frame_in_range e decoded frame most seen h

pub returns-clause-fault : goal.returns-clause-fault
returns-clause-fault c e code h = are_in_range (fail code e.streams.last_processed e) (fits e h)

pub returns-clause-unprocessed : goal.returns-clause-unprocessed
returns-clause-unprocessed c e i h =
    are_in_range (close_unprocessed e i) (closed_fits e i 0 (fits e h))

pub returns-clause-call : goal.returns-clause-call
returns-clause-call c e act accepted typed h =
    are_in_range (after_call e act) (call_fits e act accepted typed (fits e h))
