-- By the laws of what an end reads, and of logs with one script.
use Rattle.h2_replay.proofs.Names.{sym, ap, ◌∙◌, reverse, Log, replay_recorded, replay_closed}
use Rattle.h2_laws_end.proofs.RunsOfLogs.{same_but_turns}
use Rattle.h2_replay.proofs.JoinedLemmas.{events_kept}
use Rattle.h2_laws_end.proofs.Grouped.{items_grouped}
use Rattle.h2_laws_end.proofs.ReadingCalls.{log_has_readings}
use Rattle.h2_replay.proofs.laws.events_of_a_replay.Goals as goal

pub returns-clause-grouped : goal.returns-clause-grouped
returns-clause-grouped c role values acts log turns is =
    items_grouped role values log (replay_closed role values acts log turns is)

pub returns-clause-readings : goal.returns-clause-readings
returns-clause-readings c role values acts log turns is =
    log_has_readings role values log (replay_closed role values acts log turns is)

pub returns-clause-however_cut : goal.returns-clause-however_cut
returns-clause-however_cut c role values acts others kept also log other turns more history another
    keeps keeps_also same =
    let reported = ap (λ (l : Log). l.reported)
    (same_but_turns role values log other history another same) in
    events_kept kept turns keeps.same
    ∙ ap reverse (replay_recorded role values acts log turns keeps.replay).2
    ∙ ap reverse reported
    ∙ sym (events_kept also more keeps_also.same
    ∙ ap reverse (replay_recorded role values others other more keeps_also.replay).2)
