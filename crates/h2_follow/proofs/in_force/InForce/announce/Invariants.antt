-- The values so far, and those of the pairs that are left.
use Rattle.std.proofs.Common.{◌≡◌}
use Rattle.h2_frame.specs.Pairs.{pairs_left}
use Rattle.h2_follow.specs.InForce.{with_pairs}
use Rattle.h2_follow.proofs.in_force.InForce.announce.Given as goal

abbrev pub invariant-loop-id : goal.invariant-loop-id
invariant-loop-id l =
    with_pairs l.values (pairs_left l.id-iterator)
    ≡ with_pairs l.initial.values (pairs_left l.initial.id-iterator)
