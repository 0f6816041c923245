-- By the last act.
use Rattle.h2_replay.proofs.Names.{Make, ◌∷◌}
use Rattle.h2_replay.proofs.JoinedLemmas.{last_act}
use Rattle.h2_replay.proofs.laws.calls_of_a_replay.Goals as goal

pub returns : goal.returns
returns c role values acts act after turns is =
    last_act role values (Make act ∷ acts) after turns is
