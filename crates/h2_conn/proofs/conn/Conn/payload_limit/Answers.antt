-- The machine's limit is the log's.
use Rattle.h2_conn.proofs.Names.{◌∙◌, end_of, limit_agrees}
use Rattle.h2_conn.proofs.conn.Conn.payload_limit.Goals as goal

pub returns : goal.returns
returns c values log parts up =
    c.payload_limit.ensures
    ∙ limit_agrees values (end_of c.args.self.now.end) log parts.machine up
