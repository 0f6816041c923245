-- By the lemmas on logs of a replay.
use Rattle.h2_laws_end.proofs.ReplayedLogs.{replay_closed, replay_acts, replay_answers}
use Rattle.h2_laws_end.proofs.ReplayedOctets.{replay_recorded, replay_used, replay_all_used}
use Rattle.h2_laws_end.proofs.replays.replays_are_logs.Goals as goal

pub returns-clause-closed : goal.returns-clause-closed
returns-clause-closed c = replay_closed

pub returns-clause-acts : goal.returns-clause-acts
returns-clause-acts c = replay_acts

pub returns-clause-answers : goal.returns-clause-answers
returns-clause-answers c = replay_answers

pub returns-clause-recorded : goal.returns-clause-recorded
returns-clause-recorded c = replay_recorded

pub returns-clause-used : goal.returns-clause-used
returns-clause-used c = replay_used

pub returns-clause-all_used : goal.returns-clause-all_used
returns-clause-all_used c = replay_all_used
