-- By the lemmas on each step.
use Rattle.h2_laws_machine.proofs.Names.{close_unprocessed}
use Rattle.h2_laws_machine.proofs.BoundsOfSteps.{new_bounded, call_bounded, frame_bounded, is_up}
use Rattle.h2_laws_machine.proofs.BoundsOfSteps.{is_bounded, failed_bounded, ended_up}
use Rattle.h2_laws_machine.proofs.bounds.everything_is_bounded.Goals as goal

pub returns : goal.returns
returns c = record {
  begins = new_bounded;
  frame = frame_bounded;
  fault = λ e code up bounded. failed_bounded e code e.streams.last_processed
      (is_up e up bounded);
  unprocessed = λ e i up bounded. is_bounded (close_unprocessed e i)
      (ended_up e i 0 (is_up e up bounded));
  call = call_bounded;
}
