-- The cutter's place is that of the last octet used.
use Rattle.h2_conn.proofs.Names.{◌∙◌}
use Rattle.h2_conn.proofs.conn.Conn.place.Goals as goal

pub returns : goal.returns
returns c values log parts = c.place.ensures ∙ parts.place
