-- The first octets of the body are there.
use Rattle.std.proofs.Common.{◌≡◌}
use Rattle.h2_net.specs.Loopback.{posted_octets}
use Rattle.h2_net.proofs.loopback.posted_octets.Given as goal

abbrev pub invariant-loop-place : goal.invariant-loop-place
invariant-loop-place l = l.body.items ≡ posted_octets l.place
