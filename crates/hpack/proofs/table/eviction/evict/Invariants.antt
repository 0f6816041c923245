use Rattle.hpack.proofs.Names.{◌≡◌, length, table_size, fit}
use Rattle.hpack.proofs.table.eviction.evict.Given as goal

abbrev pub invariant-loop-remaining : goal.invariant-loop-remaining
invariant-loop-remaining l = record {
  counted : l.remaining ≡ table_size l.ring.items;
  fitting : fit l.ring.items l.bound ≡ fit l.initial.ring.items l.bound;
  capacity : l.ring.capacity ≡ l.initial.ring.capacity;
}

abbrev pub decreases-loop-remaining : goal.decreases-loop-remaining
decreases-loop-remaining l = length l.ring.items
