-- By what the connections answer.
use Rattle.std.proofs.Common.{sym, ◌∙◌}
use Rattle.h2_settle.proofs.FailedEnds.{finds_client, finds_server, finds_neither}
use Rattle.h2_settle.proofs.rounds.failed_end.Goals as goal

pub returns-then-is_some : goal.returns-then-is_some
returns-then-is_some c =
    finds_client c.args.joined.now c.failed.result
    (rw (c.conn.ensures, c.client.ensures) at c.failed.ensures)
    (sym c.is_some.ensures ∙ c.if-is_some.true)

pub returns-then-is_some-2 : goal.returns-then-is_some-2
returns-then-is_some-2 c =
    finds_server c.args.joined.now c.failed.result c.failed-2.result
    (rw (c.conn.ensures, c.client.ensures) at c.failed.ensures)
    (rw (c.conn-2.ensures, c.server.ensures) at c.failed-2.ensures)
    (sym c.is_some.ensures ∙ c.if-is_some.false) (sym c.is_some-2.ensures ∙ c.if-is_some-2.true)

pub returns : goal.returns
returns c =
    finds_neither c.args.joined.now c.failed.result c.failed-2.result
    (rw (c.conn.ensures, c.client.ensures) at c.failed.ensures)
    (rw (c.conn-2.ensures, c.server.ensures) at c.failed-2.ensures)
    (sym c.is_some.ensures ∙ c.if-is_some.false) (sym c.is_some-2.ensures ∙ c.if-is_some-2.false)
