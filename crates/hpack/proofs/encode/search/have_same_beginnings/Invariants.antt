use Rattle.hpack.proofs.Names.{◌≡◌, length, AreOctetsByPlace}
use Rattle.hpack.proofs.WordLemmas.{IsLeft}
use Rattle.hpack.proofs.encode.search.have_same_beginnings.Given as goal

abbrev pub invariant-loop-left : goal.invariant-loop-left
invariant-loop-left l = record {
  left : IsLeft l.octets l.others l.left l.others_left;
  length : length l.left ≡ length l.others_left;
  octets : AreOctetsByPlace l.left;
  others : AreOctetsByPlace l.others_left;
}

abbrev pub decreases-loop-left : goal.decreases-loop-left
decreases-loop-left l = length l.left
