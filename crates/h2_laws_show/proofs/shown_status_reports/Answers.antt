-- By the lemma on what the status reports.
use Rattle.h2_laws_show.proofs.Reports.{shown_reports}
use Rattle.h2_laws_show.proofs.shown_status_reports.Goals as goal

pub returns : goal.returns
returns c = shown_reports
