-- The machine's value is the log's.
use Rattle.h2_conn.proofs.Names.{◌∙◌, end_of}
use Rattle.h2_laws_machine.proofs.AlikeAnswers.{live_alike}
use Rattle.h2_conn.proofs.AskReaders.{live_by}
use Rattle.h2_conn.proofs.conn.Conn.next_live.Goals as goal

pub returns-clause-number : goal.returns-clause-number
returns-clause-number c values log parts =
    live_by c.next_live.result (end_of c.args.self.now.end).failed c.args.above _
    c.next_live.ensures.number c.next_live.ensures.above
    ∙ live_alike values (end_of c.args.self.now.end) log c.args.above parts.machine
