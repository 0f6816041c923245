-- No GOAWAY was added.
use Rattle.std.proofs.Common.{◌≡◌, false}
use Rattle.h2_test_layers.proofs.layers.output_memory.first_not_going_on.Given as goal

abbrev pub invariant-loop-round : goal.invariant-loop-round
invariant-loop-round l = l.output.ended ≡ false
