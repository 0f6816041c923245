-- What a search keeps, and that it ends.
use Rattle.std.proofs.Common.{◌-◌}
use Rattle.h2_numbers.proofs.Orders.{Searches}
use Rattle.h2_numbers.proofs.map.first_above.Given as goal

abbrev pub invariant-loop-low : goal.invariant-loop-low
invariant-loop-low l = Searches l.order l.number l.low l.high

abbrev pub decreases-loop-low : goal.decreases-loop-low
decreases-loop-low l = l.high - l.low
