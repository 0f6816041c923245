-- Each part follows the one before it.
use Rattle.h2_conn.proofs.WaitingParts.{starts_both}
use Rattle.h2_conn.specs.Conn.{octets_queued}
use Rattle.h2_server.proofs.connection.Connection.output.Goals as goal

pub returns : goal.returns
returns g c =
    let queue = octets_queued c.args.self.now.server.end.conn in
    let first = rw c.conn-conn.ensures at c.waiting_from-first.ensures.part in
    let second = rw c.conn-conn.ensures at c.waiting_from.ensures.part in
    record {
      part = starts_both queue c.waiting_from-first.result.now c.waiting_from.result.now first
          second;
      some = rw c.conn-conn.ensures at c.waiting_from-first.ensures.some;
    }
