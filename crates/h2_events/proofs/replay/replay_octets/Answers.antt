-- The status reports all octets that the reader had.
use Rattle.h2_events.proofs.ReplayLemmas.{result_reports_all}
use Rattle.h2_events.proofs.replay.replay_octets.Goals as goal

pub returns-clause-reports : goal.returns-clause-reports
returns-clause-reports g c =
    result_reports_all c.args.role _ c.in_ok-ended.ended.fault c.finish.result
    c.in_ok-ended.ensures.reports c.finish.ensures.status
