-- By the law of failures.
use Rattle.h2_replay.proofs.Names.{replay_closed}
use Rattle.h2_laws_end.proofs.Failures.{failed_last}
use Rattle.h2_replay.proofs.laws.fault_of_a_replay.Goals as goal

pub returns : goal.returns
returns c role values acts log turns code is failed =
    failed_last role values log code (replay_closed role values acts log turns is) failed
