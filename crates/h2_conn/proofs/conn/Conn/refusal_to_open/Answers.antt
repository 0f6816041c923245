-- The machine refuses as the log does.
use Rattle.h2_conn.proofs.Names.{◌∙◌, Open, end_of, refusal_same}
use Rattle.h2_conn.proofs.conn.Conn.refusal_to_open.Goals as goal

pub returns-clause-refusal : goal.returns-clause-refusal
returns-clause-refusal c values log parts end =
    c.refusal_to_open.ensures.refusal end
    ∙ refusal_same values (end_of c.args.self.now.end) log (Open c.args.fields.now end)
    parts.machine
