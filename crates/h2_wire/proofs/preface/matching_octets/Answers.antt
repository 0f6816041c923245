-- The octets continue the preface as far as they match.
use Rattle.h2_wire.proofs.Names.{◌≡◌, ◌+◌, ◌<◌, drop, arith, length-drop}
use Rattle.h2_wire.specs.Streams.{preface}
use Rattle.std.proofs.Common.{get_or, get_or-drop}
use Rattle.std.proofs.lemmas.List.{take_more_same}
use Rattle.h2_wire.proofs.preface.matching_octets.Goals as goal
use Rattle.h2_wire.proofs.preface.matching_octets.Goals.{
  then-matched-count-eq24-via-then-matched-count-eq24,
}
use Rattle.h2_wire.proofs.preface.matching_octets.Goals.{
  then-matched-count-eq24-via-else-matched-count-eq24+then-octet-matched,
}

pub returns-then-matched-count-eq24-clause-differs
    : goal.returns-then-matched-count-eq24-clause-differs
unfolding preface
returns-then-matched-count-eq24-clause-differs c = λ within inside same.
    elim c.then-matched-count-eq24.branch [
      | then-matched-count-eq24-via-then-matched-count-eq24 w ↦ absurd (omega arith)
      | then-matched-count-eq24-via-else-matched-count-eq24+then-octet-matched w ↦
          w.if-octet-matched.true same
    ]

pub loop-count-preserved : goal.loop-count-preserved
unfolding preface
loop-count-preserved c =
    let inside : c.args.matched + c.loop-count.count < 24 = omega arith in
    let same : get_or c.args.piece.now c.loop-count.count 0
    ≡ get_or (drop c.args.matched preface) c.loop-count.count 0 =
    rw get_or-drop c.if-octet-matched.false in (
      omega arith,
      take_more_same c.args.piece.now (drop c.args.matched preface) c.loop-count.count 0
          c.loop-count-test.true (simp length-drop (omega arith)) c.loop-count.invariant.1 same,
    )
