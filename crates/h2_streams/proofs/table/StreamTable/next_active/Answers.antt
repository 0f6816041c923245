use Rattle.h2_streams.proofs.Names.{Some}
use Rattle.h2_streams.proofs.ActiveNumbers.{least_first}
use Rattle.h2_numbers.specs.Tables.{all_of}
use Rattle.h2_streams.proofs.table.StreamTable.next_active.Goals as goal

pub returns-in-Some-clause-number : goal.returns-in-Some-clause-number
returns-in-Some-clause-number c =
    let t = c.self.inside in
    rw (← c.self.view_is)
    (least_first t.send_initial t.recv_initial c.args.above (all_of t.active) t.resets.keys
    (Some c.in-Some.number) c.self.invariant.well c.in-Some.ensures)

pub returns-in-None-clause-number : goal.returns-in-None-clause-number
returns-in-None-clause-number c =
    let t = c.self.inside in
    rw (← c.self.view_is)
    (least_first t.send_initial t.recv_initial c.args.above (all_of t.active) t.resets.keys
    c.least_above.result c.self.invariant.well c.least_above.ensures)
