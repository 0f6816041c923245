-- The number that no difference is above tells of all of them.
use Rattle.h2_streams.proofs.MostWindows.{is_within, none_above}
use Rattle.h2_numbers.specs.Tables.{all_of}
use Rattle.h2_streams.proofs.table.StreamTable.is_none_above.Goals as goal

pub returns : goal.returns
returns c = λ low.
    let t = c.self.inside in
    rw (← c.self.view_is) (none_above t.send_initial t.recv_initial c.args.initial (all_of t.active)
    t.resets.keys t.send_most c.self.invariant.most (is_within t.send_most c.args.initial
    c.from.result c.from-2.result c.self.invariant.most.near c.ranges.initial.fits c.from.ensures
    c.from-2.ensures low))
