use Rattle.hpack.proofs.Names.{◌≡◌, ◌-◌, ◌/◌, length, hash_words}
use Rattle.hpack.proofs.encode.hash.hash_from.Given as goal

abbrev pub invariant-loop-rest : goal.invariant-loop-rest
invariant-loop-rest l =
    hash_words ((length l.rest - 1) / 8) l.before_last l.rest
    ≡ hash_words ((length l.octets - 1) / 8) l.hash l.octets

abbrev pub decreases-loop-rest : goal.decreases-loop-rest
decreases-loop-rest l = length l.rest
