use Rattle.std.proofs.Common.{◌-◌}
use Rattle.h2_conn.specs.Conn.{ConnRepresents}
use Rattle.h2_spec_log.specs.Acts.{Values}
use Rattle.h2_spec_log.specs.Log.{Log}
use Rattle.h2_server.proofs.Asked.{NoneCanAskTo}
use Rattle.h2_server.proofs.exchanges.Exchanges.next_asked_above.Given as goal

-- So far none can be asked.
abbrev pub invariant-loop-id : goal.invariant-loop-id
invariant-loop-id g l =
    (values : Values) (log : Log) → ConnRepresents values l.server.end.conn log
    → NoneCanAskTo log l.initial.above l.above l.self.kept.entries

abbrev pub decreases-loop-id : goal.decreases-loop-id
decreases-loop-id g l = 4294967296 - l.above
