use Rattle.hpack.proofs.Names.{◌≡◌, length, reverse, all_added}
use Rattle.hpack.proofs.encode.pending_table.PendingTable.commit.Given as goal

abbrev pub invariant-loop-entry : goal.invariant-loop-entry
invariant-loop-entry l = record {
  table : all_added l.table (reverse l.self.added.items)
      ≡ all_added l.initial.table (reverse l.initial.self.added.items);
  index : l.self.index ≡ l.initial.self.index;
}

abbrev pub decreases-loop-entry : goal.decreases-loop-entry
decreases-loop-entry l = length l.self.added.items
