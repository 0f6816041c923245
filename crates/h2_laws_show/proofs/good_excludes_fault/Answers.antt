-- By the lemmas on what a status reports.
use Rattle.h2_laws_show.proofs.Reports.{good_or_fault, good_or_fault_input}
use Rattle.h2_laws_show.proofs.good_excludes_fault.Goals as goal

pub returns-clause-stream : goal.returns-clause-stream
returns-clause-stream c = good_or_fault

pub returns-clause-input : goal.returns-clause-input
returns-clause-input c = λ options given good fault.
    good_or_fault_input options.hex options given good fault
