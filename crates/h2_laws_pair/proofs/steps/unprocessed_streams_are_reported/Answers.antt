-- By the lemmas on calls of `take` and on other calls.
use Rattle.h2_laws_pair.proofs.StepUnprocessed.{take_reports_all, call_reports_all}
use Rattle.h2_laws_pair.proofs.steps.unprocessed_streams_are_reported.Goals as goal

pub returns-clause-takes : goal.returns-clause-takes
returns-clause-takes c = take_reports_all

pub returns-clause-calls : goal.returns-clause-calls
returns-clause-calls c = call_reports_all
