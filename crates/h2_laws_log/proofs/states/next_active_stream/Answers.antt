-- By the lemmas on the least number that passes.
use Rattle.h2_laws_log.proofs.Names.{ltb-true, and_parts}
use Rattle.h2_laws_log.proofs.NextStreams.{next_passes, next_found, active_counted}
use Rattle.h2_laws_log.proofs.states.next_active_stream.Goals as goal

pub returns : goal.returns
returns c = record {
  active = λ log id some. (and_parts _ _ (next_passes log id some)).0;
  above = λ log id some. ltb-true _ _ (and_parts _ _ (next_passes log id some)).1;
  found = λ log id i alive above. (next_found log id i alive above).0;
  least = λ log id i alive above. (next_found log id i alive above).1;
  counted = active_counted;
}
