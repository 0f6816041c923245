use Rattle.hpack.proofs.Names.{◌≡◌, ◌++◌, length}
use Rattle.hpack.proofs.table.eviction.move_entries.Given as goal

abbrev pub invariant-loop-oldest : goal.invariant-loop-oldest
invariant-loop-oldest l = record {
  items : l.from.items ++ l.to.items ≡ l.initial.from.items;
  capacity : l.to.capacity ≡ l.initial.to.capacity;
}

abbrev pub decreases-loop-oldest : goal.decreases-loop-oldest
decreases-loop-oldest l = length l.from.items
