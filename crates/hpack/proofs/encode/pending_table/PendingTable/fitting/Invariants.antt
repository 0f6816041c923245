use Rattle.hpack.proofs.Names.{◌≡◌, ◌≤◌, take, table_size, fit, newest_first}
use Rattle.hpack.proofs.encode.pending_table.PendingTable.fitting.Given as goal

abbrev pub invariant-loop-size : goal.invariant-loop-size
invariant-loop-size l = record {
  live : l.live ≤ l.self.live;
  counted : l.size ≡ table_size (take l.live (newest_first l.self l.table));
  fitting : fit (take l.live (newest_first l.self l.table)) l.bound
      ≡ fit (take l.self.live (newest_first l.self l.table)) l.bound;
}

abbrev pub decreases-loop-size : goal.decreases-loop-size
decreases-loop-size l = l.live
