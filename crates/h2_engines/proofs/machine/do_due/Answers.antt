-- What is due is done once all that waits was written, or at once.
use Rattle.h2_engines.proofs.Names.{err_from_is_err_and}
use Rattle.h2_engines.proofs.MachineTakes.{wrote_due, unwritten_due, plain_due}
use Rattle.h2_engines.proofs.MachineViews.{begun}
use Rattle.h2_engines.proofs.machine.do_due.Goals as goal

pub returns-in_err-write_all-clause-does : goal.returns-in_err-write_all-clause-does
returns-in_err-write_all-clause-does g c =
    let answer = err_from_is_err_and c.from_residual.result c.from_residual.ensures.1 in
    rw (answer.1, answer.2, c.if-writes.true) (unwritten_due _ _
    (g.M.Machine.held c.args.machine.now) (g.M.Machine.held c.write_all.new.self) c.args.due
    c.in_err-write_all.field-0.0 c.in_err-write_all.ensures.kept
    c.in_err-write_all.ensures.writes c.in_err-write_all.ensures.err)

pub returns-then-writes-clause-does : goal.returns-then-writes-clause-does
returns-then-writes-clause-does g c =
    rw c.if-writes.true (wrote_due _ _ (g.M.Machine.held c.args.machine.now)
    (g.M.Machine.held c.write_all.new.self) (g.M.Machine.held c.act.new.self) c.args.due
    c.in_ok-write_all.field-0 c.act.result c.in_ok-write_all.ensures.kept
    c.in_ok-write_all.ensures.writes c.act.ensures.acts)

pub returns-clause-does : goal.returns-clause-does
returns-clause-does g c =
    rw c.if-writes.false (plain_due begun begun (g.M.Machine.held c.args.machine.now)
    (g.M.Machine.held c.act-2.new.self) c.args.due c.act-2.result c.act-2.ensures.acts)
