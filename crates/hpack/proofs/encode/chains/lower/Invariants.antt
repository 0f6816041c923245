use Rattle.hpack.proofs.Names.{◌≡◌, ℕ, ◌-◌, ◌^◌, ◌<◌, ◌≤◌, length, get_or}
use Rattle.hpack.proofs.encode.chains.lower.Given as goal

abbrev pub invariant-loop-one : goal.invariant-loop-one
invariant-loop-one l = record {
  len : length l.newest.items ≡ length l.initial.newest.items;
  done : (k : ℕ) → k < l.one
      → get_or l.newest.items k 0 ≡ get_or l.initial.newest.items k 0 - 2 ^ 31;
  left : (k : ℕ) → l.one ≤ k → get_or l.newest.items k 0 ≡ get_or l.initial.newest.items k 0;
}
