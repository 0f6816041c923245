-- It is kept with the parts.
use Rattle.h2_conn.proofs.ReasonCodes.{why_code}
use Rattle.h2_conn.proofs.conn.Conn.why.Goals as goal

pub returns-clause-why : goal.returns-clause-why
returns-clause-why c values log parts = parts.reason

pub returns-clause-code : goal.returns-clause-code
returns-clause-code c values log parts = why_code values log c.args.self.now.why parts.reason
