-- What was appended, and what is left of the output, are what was to be appended.
use Rattle.std.proofs.Common.{◌≡◌, ◌-◌, ◌++◌, drop}
use Rattle.h2_conn.specs.Conn.{octets_queued}
use Rattle.h2_conn.proofs.conn.Conn.append_waiting.Given as goal

abbrev pub invariant-loop-at : goal.invariant-loop-at
invariant-loop-at l =
    l.out.items ++ drop l.at (octets_queued l.self)
    ≡ l.initial.out.items ++ drop l.from (octets_queued l.self)

abbrev pub decreases-loop-at : goal.decreases-loop-at
decreases-loop-at l = l.waiting - l.at
