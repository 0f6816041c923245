-- By the lemmas on what turns tell together.
use Rattle.h2_replay.proofs.Names.{◌∙◌, ap, sym, ◌++◌, List, ℕ, reverse, replay_recorded}
use Rattle.h2_laws_end.proofs.ReplayedOctets.{replay_used, replay_all_used}
use Rattle.h2_replay.proofs.JoinedLemmas.{used_kept, written_kept, events_kept}
use Rattle.h2_replay.proofs.laws.turns_are_of_the_log.Goals as goal

pub returns-clause-input : goal.returns-clause-input
returns-clause-input c role values acts kept log turns keeps =
    used_kept kept turns keeps.same
    ∙ (replay_recorded role values acts log turns keeps.replay).0

pub returns-clause-used : goal.returns-clause-used
returns-clause-used c role values acts kept log turns keeps =
    let used = replay_used role values acts log turns keeps.replay in
    let input = used_kept kept turns keeps.same
    ∙ (replay_recorded role values acts log turns keeps.replay).0 in
    (used.0, used.1 ∙ ap (λ (o : List ℕ). o ++ used.0) (sym input))

pub returns-clause-all_used : goal.returns-clause-all_used
returns-clause-all_used c role values acts kept log turns keeps up =
    replay_all_used role values acts log turns keeps.replay up
    ∙ sym (used_kept kept turns keeps.same
    ∙ (replay_recorded role values acts log turns keeps.replay).0)

pub returns-clause-output : goal.returns-clause-output
returns-clause-output c role values acts kept log turns keeps =
    written_kept kept turns keeps.same
    ∙ (replay_recorded role values acts log turns keeps.replay).1

pub returns-clause-events : goal.returns-clause-events
returns-clause-events c role values acts kept log turns keeps =
    events_kept kept turns keeps.same
    ∙ ap reverse (replay_recorded role values acts log turns keeps.replay).2
