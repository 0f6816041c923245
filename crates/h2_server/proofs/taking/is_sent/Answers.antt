use Rattle.std.proofs.Common.{sym, ◌∙◌}
use Rattle.std.proofs.lemmas.Bool.{eqb-true}
use Rattle.h2_server.proofs.taking.is_sent.Goals as goal

pub returns-then-is_active : goal.returns-then-is_active
returns-then-is_active c = λ sent values end is. (
  sym (c.if-is_active.ensures values end.log (rw (← c.conn.ensures) at is.streams.conn)),
  sym (c.unsent.ensures values end is) ∙ eqb-true c.unsent.result 0 sent,
)
