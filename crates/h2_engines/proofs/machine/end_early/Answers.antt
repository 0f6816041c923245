-- It ends at once without a link, or while the connection is up; else once all was written, or that
-- could not be.
use Rattle.h2_engines.proofs.Names.{◌∙◌, sym}
use Rattle.h2_engines.proofs.MachineTakes.{ends_alone, ends_up, ends_written, ends_not_written}
use Rattle.h2_engines.proofs.MachineViews.{begun}
use Rattle.h2_engines.proofs.WithoutLinkSends.{end_up, end_down}
use Rattle.h2_engines.proofs.machine.end_early.Goals as goal

pub returns-then-not-writes-clause-ends : goal.returns-then-not-writes-clause-ends
returns-then-not-writes-clause-ends g c =
    rw c.if-not-writes.true
    (ends_alone begun begun (g.M.Machine.held c.args.machine.now) c.args.error)

pub returns-in-Ok-clause-ends : goal.returns-in-Ok-clause-ends
returns-in-Ok-clause-ends g c =
    let old = g.M.Machine.held c.args.machine.now in
    rw c.if-not-writes.false (ends_written _ _ old (g.M.Machine.held c.write_all.new.self)
    c.args.error c.in-Ok.field-0 (end_down old.end c.failed.result
    (rw c.conn.ensures at c.failed.ensures) (sym c.is_some.ensures ∙ c.if-is_some.true))
    c.in-Ok.ensures.kept c.in-Ok.ensures.writes)

pub returns-in-Err-clause-ends : goal.returns-in-Err-clause-ends
returns-in-Err-clause-ends g c =
    let old = g.M.Machine.held c.args.machine.now in
    rw c.if-not-writes.false (ends_not_written _ _ old (g.M.Machine.held c.write_all.new.self)
    c.args.error c.in-Err.unwritten (end_down old.end c.failed.result
    (rw c.conn.ensures at c.failed.ensures) (sym c.is_some.ensures ∙ c.if-is_some.true))
    c.in-Err.ensures.kept c.in-Err.ensures.writes c.in-Err.ensures.err)

pub returns-clause-ends : goal.returns-clause-ends
returns-clause-ends g c =
    let old = g.M.Machine.held c.args.machine.now in
    rw c.if-not-writes.false (ends_up _ old c.args.error (end_up old.end c.failed.result
    (rw c.conn.ensures at c.failed.ensures) (sym c.is_some.ensures ∙ c.if-is_some.false)))
