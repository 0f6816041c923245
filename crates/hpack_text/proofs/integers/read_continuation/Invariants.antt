use Rattle.hpack_text.proofs.Names.{◌≡◌, ◌≤◌, length, take, AllByRecursion, continuation_value}
use Rattle.hpack_text.specs.Integers.{HasTopBit}
use Rattle.hpack_text.proofs.integers.read_continuation.Given as goal

abbrev pub invariant-loop-count : goal.invariant-loop-count
invariant-loop-count l = record {
  within : l.count ≤ length l.octets;
  top : AllByRecursion HasTopBit (take l.count l.octets);
  number : l.value ≡ continuation_value (take l.count l.octets);
}
