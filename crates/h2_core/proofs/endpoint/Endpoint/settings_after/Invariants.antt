-- The pairs that are left have the fault of all, and give the settings after all.
use Rattle.h2_core.proofs.Names.{◌≡◌, lent_pairs, pairs_left, settings_fault, end_view, end_of}
use Rattle.h2_core.proofs.Names.{with_values}
use Rattle.h2_core.specs.Settings.{KnowsGreatest}
use Rattle.h2_core.proofs.endpoint.Endpoint.settings_after.Given as goal

abbrev pub invariant-loop-id : goal.invariant-loop-id
invariant-loop-id l = record {
  fault : settings_fault (end_view (end_of l.fn.self)) (lent_pairs l.fn.pairs)
      ≡ settings_fault (end_view (end_of l.fn.self)) (pairs_left l.id-iterator);
  values : with_values l.fn.self.peer (lent_pairs l.fn.pairs)
      ≡ with_values l.settings (pairs_left l.id-iterator);
  greatest : KnowsGreatest l.fn.self.streams l.greatest;
}
