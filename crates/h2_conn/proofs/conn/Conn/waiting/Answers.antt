-- The machine's value is the log's, and every log is bounded.
use Rattle.h2_conn.proofs.Names.{◌∙◌, arith, end_of, waiting_alike}
use Rattle.h2_laws_machine.proofs.BoundedLogs.{few_wait}
use Rattle.h2_conn.proofs.conn.Conn.waiting.Goals as goal

pub returns-clause-count : goal.returns-clause-count
returns-clause-count c values log parts =
    c.waiting.ensures
    ∙ waiting_alike values (end_of c.args.self.now.end) log parts.machine

pub returns-clause-bound : goal.returns-clause-bound
returns-clause-bound c values log parts =
    let e = end_of c.args.self.now.end in
    omega (
      arith,
      c.waiting.ensures,
      waiting_alike values e log parts.machine,
      few_wait e.role values log parts.machine.came,
    )
