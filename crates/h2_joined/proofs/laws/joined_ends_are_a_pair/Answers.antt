-- By what holds whatever acts were made.
use Rattle.h2_joined.proofs.JointActs.{joint_holds}
use Rattle.h2_joined.proofs.JointMemory.{had_memory}
use Rattle.h2_joined.proofs.laws.joined_ends_are_a_pair.Goals as goal

pub returns : goal.returns
returns c = λ client_values server_values made client server is.
    let stays = (joint_holds client_values server_values made client server is).stays in (
      stays.lost,
      stays.other_lost,
      stays.pair.0,
      λ had none. stays.pair.1
          (had_memory client_values server_values made client server is had none),
    )
