-- By the lemmas on each step.
use Rattle.h2_laws_machine.proofs.Names.{new_end, after_frame, after_call, fail, close_unprocessed}
use Rattle.h2_laws_machine.proofs.ConservedBySteps.{new_holds, call_holds, frame_holds, holds}
use Rattle.h2_laws_machine.proofs.ConservedBySteps.{is_whole, ended, lacks_none}
use Rattle.h2_laws_machine.proofs.bounds.connection_window_is_kept.Goals as goal

pub returns : goal.returns
returns c = record {
  begins = λ role values. is_whole (new_end role values) (new_holds role values);
  frame = λ e decoded frame whole. is_whole (after_frame e decoded frame)
      (frame_holds e decoded frame (holds e whole));
  fault = λ e code whole. is_whole (fail code e.streams.last_processed e) (holds e whole);
  unprocessed = λ e i whole. is_whole (close_unprocessed e i)
      (ended e i 0 (lacks_none e (holds e whole)));
  call = λ e act accepted whole. is_whole (after_call e act)
      (call_holds e act accepted (holds e whole));
}
