use Rattle.hpack.proofs.Names.{take, arith, newest_first}
use Rattle.hpack.proofs.IndexLemmas.{index_added, added_length}
use Rattle.hpack.proofs.PendingTableLemmas.{live_is_small, live_is_few}
use Rattle.hpack.proofs.encode.pending_table.PendingTable.add.Goals as goal

pub overflow_add-self : goal.overflow_add-self
overflow_add-self c =
    omega (arith, live_is_small c.args.self.now c.args.table.now c.requires.pending)

pub returns-clause-pending : goal.returns-clause-pending
returns-clause-pending c =
    let newest = newest_first c.args.self.now c.args.table.now in
    record {
      live = omega (
        arith,
        c.fitting.ensures.live,
        c.requires.pending.live,
        added_length c.args.self.now.added.items c.push.new.self.items c.args.table.now.entries
            c.args.entry c.in_ok-push.ensures.items,
      );
      counted = c.fitting.ensures.counted;
      within = c.fitting.ensures.within;
      small = c.requires.pending.small;
      index = index_added c.push-2.new.self c.args.self.now.added.items c.push.new.self.items
          c.args.table.now.entries c.args.entry c.args.self.now.live c.fitting.result.0
          c.args.self.now.maximum c.in_ok-push.ensures.items c.fitting.ensures.fitting
          (c.push-2.ensures.entries (take c.args.self.now.live newest) c.args.entry
          c.requires.pending.index c.requires.hashes
          (live_is_few c.args.self.now c.args.table.now c.requires.pending));
      room = omega (arith, c.requires.pending.room, c.push-2.ensures.capacity);
    }
