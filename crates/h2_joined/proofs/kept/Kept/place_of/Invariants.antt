-- Nothing from the place on was accepted for the stream.
use Rattle.h2_joined.proofs.Names.{◌≤◌, ◌≢◌, length, drop, AllByRecursion}
use Rattle.h2_joined.proofs.kept.Kept.place_of.Given as goal

abbrev pub invariant-loop-place : goal.invariant-loop-place
invariant-loop-place l = record {
  within : l.place ≤ length l.self.accepted.items;
  none : AllByRecursion (λ one. one.id ≢ l.id) (drop l.place l.self.accepted.items);
}

abbrev pub decreases-loop-place : goal.decreases-loop-place
decreases-loop-place l = l.place
