use Rattle.h2_streams.proofs.Names.{ap, false, refl, ◌∙◌, is_some, both_ways, stream_view}
use Rattle.h2_streams.proofs.MostWindows.{most_set}
use Rattle.h2_streams.proofs.TableSteps.{table_with, active, streams_set, well_set}
use Rattle.h2_numbers.specs.Tables.{all_of}
use Rattle.h2_streams.proofs.table.StreamTable.set.Goals.{in-Some, in_default}
use Rattle.h2_streams.proofs.table.StreamTable.set.Goals as goal

pub returns : goal.returns
returns c =
    let t = c.self.inside in
    let here = active t.send_initial t.recv_initial c.args.id (all_of t.active) t.resets.keys
    (rw (← c.self.view_is) at c.requires.active) in
    elim c.match-get_mut.branch [
      | in-Some w ↦
          let holds = c.get_mut.follows.holds c.kept-kept.result in
          rw (w.self-inside-is, ← c.self.view_is)
          (ap (table_with t.send_initial t.recv_initial)
          (streams_set t.send_initial t.recv_initial c.args.id c.kept-kept.result
          (stream_view c.args.stream) (all_of t.active)
          (all_of (c.get_mut.follows.lender c.kept-kept.result)) t.resets.keys
          (holds.changes here.1) here.0
          (rw (← c.self.view_is) at c.kept-kept.ensures.view)))
      | in_default w ↦
          absurd (both_ways false refl (ap is_some w.in_default.ensures.value ∙ here.1))
    ]

pub invariant_of-self : goal.invariant_of-self
invariant_of-self c =
    let t = c.self.inside in
    let here = active t.send_initial t.recv_initial c.args.id (all_of t.active) t.resets.keys
    (rw (← c.self.view_is) at c.requires.active) in
    elim c.match-get_mut.branch [
      | in-Some w ↦
          let holds = c.get_mut.follows.holds c.kept-kept.result in
          rw (w.self-inside-is) (record {
            well = well_set c.args.id c.kept-kept.result (all_of t.active)
                (all_of (c.get_mut.follows.lender c.kept-kept.result)) t.resets.keys
                c.self.invariant.well (holds.changes here.1) here.0 c.kept-kept.ensures.near;
            most = most_set c.args.id c.kept-kept.result (all_of t.active)
                (all_of (c.get_mut.follows.lender c.kept-kept.result)) t.send_most
                c.max-self-inside.result c.max-self-inside.ensures.value c.self.invariant.most
                (holds.changes here.1)
                c.kept-kept.ensures.near;
          })
      | in_default w ↦
          absurd (both_ways false refl (ap is_some w.in_default.ensures.value ∙ here.1))
    ]
