-- So many first octets were copied.
use Rattle.std.proofs.Common.{◌≡◌, ◌≤◌, ◌-◌, ◌++◌, take, drop}
use Rattle.h2_conn.specs.Conn.{octets_queued}
use Rattle.belkjoef.proofs.output.copy_waiting.Given as goal

abbrev pub invariant-loop-count : goal.invariant-loop-count
invariant-loop-count l =
    record {
      within : l.count ≤ l.most;
      copied : l.buffer ≡ take l.count (octets_queued l.conn) ++ drop l.count l.initial.buffer;
    }

abbrev pub decreases-loop-count : goal.decreases-loop-count
decreases-loop-count l = l.most - l.count
