use Rattle.h2_streams.proofs.Names.{ap, stream_view}
use Rattle.h2_streams.proofs.MostWindows.{most_set}
use Rattle.h2_streams.proofs.TableSteps.{table_with, absent, streams_set, well_set}
use Rattle.h2_numbers.specs.Tables.{all_of}
use Rattle.h2_streams.proofs.table.StreamTable.open.Goals as goal

pub insert-requires : goal.insert-requires
insert-requires c =
    let t = c.self.inside in
    record {
      absent = (absent t.send_initial t.recv_initial c.args.id (all_of t.active) t.resets.keys
          (rw (← c.self.view_is) at c.requires.absent)).1;
    }

pub invariant_of-self-2 : goal.invariant_of-self-2
invariant_of-self-2 c =
    let t = c.self.inside in
    let none = absent t.send_initial t.recv_initial c.args.id (all_of t.active) t.resets.keys
    (rw (← c.self.view_is) at c.requires.absent) in
    record {
      well = well_set c.args.id c.kept-kept.result (all_of t.active) (all_of c.insert.new.self)
          t.resets.keys c.self.invariant.well c.in_ok-insert.ensures.updates none.0
          c.kept-kept.ensures.near;
      most = most_set c.args.id c.kept-kept.result (all_of t.active) (all_of c.insert.new.self)
          t.send_most
          c.max-self-inside.result c.max-self-inside.ensures.value c.self.invariant.most
          c.in_ok-insert.ensures.updates c.kept-kept.ensures.near;
    }

pub returns-clause-ok : goal.returns-clause-ok
returns-clause-ok c =
    let t = c.self.inside in
    let none = absent t.send_initial t.recv_initial c.args.id (all_of t.active) t.resets.keys
    (rw (← c.self.view_is) at c.requires.absent) in
    rw (← c.self.view_is)
    (ap (table_with t.send_initial t.recv_initial)
    (streams_set t.send_initial t.recv_initial c.args.id c.kept-kept.result
    (stream_view c.args.stream) (all_of t.active)
    (all_of c.insert.new.self) t.resets.keys c.in_ok-insert.ensures.updates none.0
    (rw (← c.self.view_is) at c.kept-kept.ensures.view)))
