-- By the lemmas on heads.
use Rattle.h2_frame.proofs.HeadLemmas.{length-head_fault, form_fault-head_fault}
use Rattle.h2_frame.proofs.laws.within_limit.Goals as goal

pub returns-clause-length : goal.returns-clause-length
returns-clause-length c = length-head_fault

pub returns-clause-form : goal.returns-clause-form
returns-clause-form c = form_fault-head_fault
