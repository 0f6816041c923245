use Rattle.hpack.proofs.Names.{◌≡◌, ◌≤◌, length, drop, IsIndexOf}
use Rattle.hpack.proofs.types.chains.Index.rebuild.Given as goal

abbrev pub invariant-loop-name : goal.invariant-loop-name
invariant-loop-name l = record {
  index : IsIndexOf l.self (drop l.place l.table.entries);
  capacity : l.self.names.skips.capacity ≡ l.initial.self.names.skips.capacity;
  within : l.place ≤ length l.table.entries;
}

abbrev pub decreases-loop-name : goal.decreases-loop-name
decreases-loop-name l = l.place
