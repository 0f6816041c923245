use Rattle.hpack.proofs.Names.{take, arith, newest_first}
use Rattle.hpack.proofs.IndexLemmas.{index_fit}
use Rattle.hpack.proofs.encode.pending_table.PendingTable.resize.Goals as goal

pub returns-clause-pending : goal.returns-clause-pending
returns-clause-pending c =
    let newest = newest_first c.args.self.now c.args.table.now in
    record {
      live = omega (arith, c.fitting.ensures.live, c.requires.pending.live);
      counted = c.fitting.ensures.counted;
      within = c.fitting.ensures.within;
      small = omega (arith, c.ranges.maximum);
      index = index_fit c.args.self.now.index (take c.args.self.now.live newest)
          (take c.fitting.result.0 newest) c.args.maximum c.fitting.ensures.fitting
          c.requires.pending.index;
      room = c.requires.room;
    }
