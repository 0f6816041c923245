-- The octets so far continue the preface.
use Rattle.h2_wire.proofs.Names.{◌≡◌, ◌+◌, ◌≤◌, take, drop, preface}
use Rattle.h2_wire.proofs.preface.matching_octets.Given as goal

abbrev pub invariant-loop-count : goal.invariant-loop-count
invariant-loop-count l = (l.matched + l.count ≤ 24)
    × (take l.count l.piece ≡ take l.count (drop l.matched preface))
