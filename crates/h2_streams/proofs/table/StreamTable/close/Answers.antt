use Rattle.h2_streams.proofs.Names.{ap}
use Rattle.h2_streams.proofs.MostWindows.{most_closed}
use Rattle.h2_streams.proofs.TableSteps.{table_with, active, streams_closed, well_closed}
use Rattle.h2_numbers.specs.Tables.{all_of}
use Rattle.h2_streams.proofs.table.StreamTable.close.Goals as goal

pub invariant_of-self : goal.invariant_of-self
invariant_of-self c =
    let t = c.self.inside in
    record {
      well = well_closed c.args.id (all_of t.active) (all_of c.remove.new.self) t.resets.keys
          c.self.invariant.well c.remove.ensures.updates;
      most = most_closed c.args.id (all_of t.active) (all_of c.remove.new.self) t.send_most
          c.self.invariant.most c.remove.ensures.updates;
    }

pub returns : goal.returns
returns c =
    let t = c.self.inside in
    let here = active t.send_initial t.recv_initial c.args.id (all_of t.active) t.resets.keys
    (rw (← c.self.view_is) at c.requires) in
    rw (← c.self.view_is)
    (ap (table_with t.send_initial t.recv_initial)
    (streams_closed t.send_initial t.recv_initial c.args.id (all_of t.active)
    (all_of c.remove.new.self) t.resets.keys c.remove.ensures.updates here.0))
