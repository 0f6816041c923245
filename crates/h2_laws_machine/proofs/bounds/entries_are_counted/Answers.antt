-- By the lemmas on each step.
use Rattle.h2_laws_machine.proofs.Names.{arith, new_end, after_frame, after_call}
use Rattle.h2_laws_machine.proofs.CountedBySteps.{new_counts, call_counts, frame_counts, counted}
use Rattle.h2_laws_machine.proofs.CountedBySteps.{is_counted}
use Rattle.h2_laws_machine.proofs.CountedUnprocessed.{unprocessed_counts}
use Rattle.h2_laws_machine.proofs.EntryCounts.{active_counted, reset_counted, all_counted}
use Rattle.h2_laws_machine.proofs.bounds.entries_are_counted.Goals as goal

pub returns-clause-begins : goal.returns-clause-begins
returns-clause-begins c role values = is_counted (new_end role values) (new_counts role values)

pub returns-clause-frame : goal.returns-clause-frame
returns-clause-frame c e decoded frame h =
    is_counted (after_frame e decoded frame) (frame_counts e decoded frame (counted e h))

pub returns-clause-call : goal.returns-clause-call
returns-clause-call c e act accepted h =
    is_counted (after_call e act) (call_counts e act accepted (counted e h))

pub returns-clause-most : goal.returns-clause-most
returns-clause-most c e bounded counted = omega (arith, active_counted, reset_counted, all_counted)

pub returns-clause-unprocessed : goal.returns-clause-unprocessed
returns-clause-unprocessed c e i is some h = unprocessed_counts e i is some h
