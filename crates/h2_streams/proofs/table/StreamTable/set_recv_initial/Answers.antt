use Rattle.h2_streams.proofs.Names.{ap}
use Rattle.h2_streams.proofs.Shifts.{recv_shifted}
use Rattle.h2_streams.proofs.TableSteps.{table_with}
use Rattle.h2_numbers.specs.Tables.{all_of}
use Rattle.h2_streams.proofs.table.StreamTable.set_recv_initial.Goals as goal

pub returns : goal.returns
returns c =
    let t = c.self.inside in
    rw (← c.self.view_is)
    (ap (table_with t.send_initial c.args.initial) (recv_shifted t.send_initial t.recv_initial
    c.args.initial (all_of t.active) t.resets.keys))
