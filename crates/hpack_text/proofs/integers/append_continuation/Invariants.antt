use Rattle.hpack_text.proofs.Names.{◌≤◌, vec_capacity, continuation_of}
use Rattle.hpack_text.proofs.IntegerWriting.{HasContinuationLeft}
use Rattle.hpack_text.proofs.integers.append_continuation.Given as goal

abbrev pub invariant-loop-remaining : goal.invariant-loop-remaining
invariant-loop-remaining l = record {
  left : HasContinuationLeft l.initial.out.items l.out.items (continuation_of 4 l.initial.remaining)
      l.remaining;
  capacity : vec_capacity l.initial.out ≤ vec_capacity l.out;
}

abbrev pub decreases-loop-remaining : goal.decreases-loop-remaining
decreases-loop-remaining l = l.remaining
