-- By the lemmas on each step.
use Rattle.h2_laws_machine.proofs.NextUnprocessed.{next_same}
use Rattle.h2_laws_machine.proofs.RecvUnprocessed.{unprocessed_represents}
use Rattle.h2_laws_machine.proofs.RecvWithoutFrame.{part_represents, fault_represents}
use Rattle.h2_laws_machine.proofs.RecvWithoutFrame.{out_of_memory_represents}
use Rattle.h2_laws_machine.proofs.machine.steps_without_frames_preserve_representation.Goals as goal

pub returns : goal.returns
returns c =
    assumption (
      part_represents,
      fault_represents,
      out_of_memory_represents,
      next_same,
      unprocessed_represents,
    )
