-- No call of either link has failed, and a client that posts goes on.
use Rattle.std.proofs.Common.{ℕ}
use Rattle.h2_net.specs.Loopback.{IsPosting, NoneHasFailed}
use Rattle.h2_net.proofs.loopback.carry_all.Given as goal

abbrev pub invariant-loop : goal.invariant-loop
invariant-loop g l =
    record {
      failures : NoneHasFailed l.ends;
      posts : (count : ℕ) → IsPosting count l.initial.ends.client
          → IsPosting count l.ends.client;
    }
