-- What is left ends with the same blanks or none.
use Rattle.std.proofs.Common.{◌≡◌, length, reverse}
use Rattle.h2_get.specs.Requests.{skip_blanks}
use Rattle.h2_get.proofs.request.without_last_blanks.Given as goal

abbrev pub invariant-loop-left : goal.invariant-loop-left
invariant-loop-left l = skip_blanks (reverse l.left) ≡ skip_blanks (reverse l.octets)

abbrev pub decreases-loop-left : goal.decreases-loop-left
decreases-loop-left l = length l.left
