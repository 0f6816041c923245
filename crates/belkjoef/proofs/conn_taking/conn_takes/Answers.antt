use Rattle.belkjoef.proofs.TakenReports.{reports_event, reports_nothing, reports_fault}
use Rattle.belkjoef.proofs.conn_taking.conn_takes.Goals as goal

pub returns-in-Some : goal.returns-in-Some
returns-in-Some c = reports_event c.args.conn.now c.take.follows.lender-at-none
    c.args.octets.now c.args.report.now c.say.new.self
    c.in-Ok.taken c.in-Some.reported c.in-Some.is c.say.ensures
    (rw c.in-Ok.is at c.take.follows.holds-at-none)

pub returns-in-None : goal.returns-in-None
returns-in-None c = reports_nothing c.args.conn.now c.take.follows.lender-at-none
    c.args.octets.now c.args.report.now c.in-Ok.taken
    c.in-None.is (rw c.in-Ok.is at c.take.follows.holds-at-none)

pub returns-in-Err : goal.returns-in-Err
returns-in-Err c = reports_fault c.args.conn.now c.take.follows.lender-at-none
    c.args.octets.now c.args.report.now c.in-Err.fault
    c.number-report.result c.number-report.ensures
    (rw c.in-Err.is at c.take.follows.holds-at-none)
