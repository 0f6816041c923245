-- By the states' order, and since an active stream is used.
use Rattle.h2_laws_log.proofs.ReaderStates.{not_idle, active_used, state_idle, state_active}
use Rattle.h2_laws_log.proofs.ReaderStates.{state_is_active}
use Rattle.h2_laws_log.proofs.states.states_of_streams.Goals as goal

pub returns : goal.returns
returns c = record {
  idle = λ role i received sent reported unused. state_idle _ _ _ unused;
  used = λ role i received sent reported used. not_idle _ _ _ used;
  active = λ role i received sent reported alive. state_active _ _ _
      (active_used role i received sent reported alive) alive;
  active_by_items = λ role i received sent reported is. state_is_active _ _ _ is;
}
