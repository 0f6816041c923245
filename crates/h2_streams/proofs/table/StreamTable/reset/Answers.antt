use Rattle.h2_streams.proofs.Names.{ap, sym, ◌∙◌, is_reset}
use Rattle.std.proofs.lemmas.Bool.{not-false}
use Rattle.h2_streams.proofs.TableSteps.{table_with, streams_reset, gone_already, reset_test}
use Rattle.h2_streams.proofs.TableSteps.{resets_more, well_reset}
use Rattle.h2_streams.proofs.MostWindows.{most_closed}
use Rattle.std.proofs.Common.{not}
use Rattle.h2_numbers.specs.Tables.{all_of}
use Rattle.h2_streams.proofs.table.StreamTable.reset.Goals as goal

pub returns-then-is_new-clause-ok : goal.returns-then-is_new-clause-ok
returns-then-is_new-clause-ok c =
    let t = c.self.inside in
    rw (← c.self.view_is)
    (ap (table_with t.send_initial t.recv_initial)
    (streams_reset t.send_initial t.recv_initial c.args.id (all_of t.active)
    (all_of c.remove.new.self) t.resets.keys c.insert.new.self.keys c.remove.ensures.updates
    (resets_more c.args.id t.resets.keys c.insert.new.self.keys c.in_ok-is_new.ensures.updates.0)))

pub returns-else-is_new-clause-ok : goal.returns-else-is_new-clause-ok
returns-else-is_new-clause-ok c =
    let t = c.self.inside in
    let already = not-false (is_reset c.args.id t.resets.keys)
    (ap not (sym (reset_test c.args.id t.resets.keys)) ∙ sym c.in_ok-is_new.ensures.added
    ∙ c.if-is_new.false) in
    rw (← c.self.view_is)
    (ap (table_with t.send_initial t.recv_initial)
    (streams_reset t.send_initial t.recv_initial c.args.id (all_of t.active) (all_of t.active)
    t.resets.keys c.insert.new.self.keys
    (gone_already c.args.id (all_of t.active) t.resets.keys c.self.invariant.well already)
    (resets_more c.args.id t.resets.keys c.insert.new.self.keys c.in_ok-is_new.ensures.updates.0)))

pub invariant_of-self-then-is_new : goal.invariant_of-self-then-is_new
invariant_of-self-then-is_new c =
    let t = c.self.inside in
    record {
      well = well_reset c.args.id (all_of t.active) (all_of c.remove.new.self) t.resets.keys
          c.insert.new.self.keys c.self.invariant.well c.remove.ensures.updates
          (resets_more c.args.id t.resets.keys c.insert.new.self.keys
          c.in_ok-is_new.ensures.updates.0);
      most = most_closed c.args.id (all_of t.active) (all_of c.remove.new.self) t.send_most
          c.self.invariant.most c.remove.ensures.updates;
    }
