-- By the laws of what an end writes.
use Rattle.h2_replay.proofs.Names.{◌∙◌, replay_closed, replay_recorded}
use Rattle.h2_laws_log.proofs.TurnsOfLogs.{turns_report}
use Rattle.h2_laws_end.proofs.Replies.{replies_of_logs}
use Rattle.h2_laws_end.proofs.SendableCalls.{written_sendable}
use Rattle.h2_laws_end.proofs.Sendings.{log_sent}
use Rattle.h2_replay.proofs.JoinedLemmas.{written_kept}
use Rattle.h2_replay.proofs.laws.output_of_a_replay.Goals as goal

pub returns-clause-items : goal.returns-clause-items
returns-clause-items c role values acts kept log turns keeps =
    written_kept kept turns keeps.same
    ∙ (replay_recorded role values acts log turns keeps.replay).1
    ∙ (turns_report role values log (replay_closed role values acts log turns keeps.replay)).items

pub returns-clause-sendable : goal.returns-clause-sendable
returns-clause-sendable c role values acts log turns is =
    written_sendable role values log (replay_closed role values acts log turns is)

pub returns-clause-replies : goal.returns-clause-replies
returns-clause-replies c role values acts log turns is =
    replies_of_logs role values log (replay_closed role values acts log turns is)

pub returns-clause-blocks : goal.returns-clause-blocks
returns-clause-blocks c role values acts log turns is =
    log_sent role values log (replay_closed role values acts log turns is)
