-- It ends at once while the connection is up; else once all was written, or that could not be.
use Rattle.h2_engines.proofs.MachineViews.{no_message}
use Rattle.h2_engines.proofs.WithoutLinkPutOut.{unlinked}
use Rattle.h2_engines.proofs.WithoutLinkSends.{end_down, end_up}
use Rattle.h2_fetch.proofs.Ending.{ends_unwritten, ends_up, ends_written}
use Rattle.h2_fetch.proofs.sending.end_early.Goals as goal

pub returns-then-is_none-clause-ends : goal.returns-then-is_none-clause-ends
returns-then-is_none-clause-ends g c =
    ends_up _ c.args.client.now.end c.args.error (λ values. end_up c.args.client.now.end
    c.failed.result (rw c.conn.ensures at c.failed.ensures) c.if-is_none.ensures
    (unlinked values no_message))

pub returns-in-Ok-clause-ends : goal.returns-in-Ok-clause-ends
returns-in-Ok-clause-ends g c =
    ends_written _ _ c.args.client.now.end _ c.args.error (λ values. end_down
    c.args.client.now.end c.failed.result (rw c.conn.ensures at c.failed.ensures)
    c.if-is_none.ensures (unlinked values no_message)) c.in-Ok.field-0 c.in-Ok.ensures.writes

pub returns-in-Err-clause-ends : goal.returns-in-Err-clause-ends
returns-in-Err-clause-ends g c =
    ends_unwritten _ _ c.args.client.now.end _ c.args.error (λ values. end_down
    c.args.client.now.end c.failed.result (rw c.conn.ensures at c.failed.ensures)
    c.if-is_none.ensures (unlinked values no_message)) c.in-Err.unwritten
    c.in-Err.ensures.err c.in-Err.ensures.writes
