-- The machine's value is the log's.
use Rattle.h2_conn.proofs.Names.{◌∙◌, end_of}
use Rattle.h2_laws_machine.proofs.AlikeAnswers.{owed_alike}
use Rattle.h2_conn.proofs.conn.Conn.owed.Goals as goal

pub returns : goal.returns
returns c values log parts =
    c.owed.ensures
    ∙ owed_alike values (end_of c.args.self.now.end) log c.args.id parts.machine
