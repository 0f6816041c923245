-- The pairs that are left break the rule that all do.
use Rattle.h2_conn.proofs.Names.{◌≡◌, View, end_of}
use Rattle.h2_frame.specs.Pairs.{lent_pairs, pairs_left}
use Rattle.h2_conn.specs.Seen.{SeesAfter}
use Rattle.h2_conn.specs.Why.{first_at_fault}
use Rattle.h2_conn.proofs.why_of_frame.first_at_fault.Given as goal

abbrev pub invariant-loop-id : goal.invariant-loop-id
invariant-loop-id l = (view : View) → SeesAfter view (end_of l.fn.end)
    → first_at_fault view (lent_pairs l.fn.pairs) ≡ first_at_fault view (pairs_left l.id-iterator)
