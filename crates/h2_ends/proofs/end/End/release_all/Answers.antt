-- Step by step, by the lemmas on a release.
use Rattle.h2_ends.proofs.Names.{refl, arith, err_from_is_err_and}
use Rattle.h2_ends.proofs.SendingRelease.{closed_from_start, begins_release, comes_to}
use Rattle.h2_ends.proofs.SendingRelease.{passes_stream, releases_stream, refuses_stream}
use Rattle.h2_ends.proofs.SendingRelease.{ends_release}
use Rattle.h2_ends.proofs.end.End.release_all.Goals as goal

pub returns-then-is_some : goal.returns-then-is_some
returns-then-is_some c =
    closed_from_start c.args.self.now c.failed.result c.failed.ensures c.if-is_some.ensures

pub loop-id-init : goal.loop-id-init
loop-id-init c =
    begins_release c.args.self.now c.failed.result c.failed.ensures c.if-is_some.ensures
    c.saturating_sub-last.result c.saturating_sub-last.ensures

pub loop-id-smaller-then-owed-eq0 : goal.loop-id-smaller-then-owed-eq0
loop-id-smaller-then-owed-eq0 c = omega (arith, c.in-Some.ensures.above)

pub loop-id-preserved-then-owed-eq0 : goal.loop-id-preserved-then-owed-eq0
loop-id-preserved-then-owed-eq0 c =
    passes_stream c.args.self.now c.loop-id.self c.in-Some.id c.owed-owed.result
    (comes_to c.args.self.now c.loop-id.self c.loop-id.last c.in-Some.id c.loop-id.invariant
    c.in-Some.ensures.next) c.owed-owed.ensures c.if-owed-eq0.true

pub loop-id-smaller : goal.loop-id-smaller
loop-id-smaller c = omega (arith, c.in-Some.ensures.above)

pub loop-id-preserved : goal.loop-id-preserved
loop-id-preserved c =
    releases_stream c.args.self.now c.loop-id.self _ c.in-Some.id c.owed-owed.result
    (comes_to c.args.self.now c.loop-id.self c.loop-id.last c.in-Some.id c.loop-id.invariant
    c.in-Some.ensures.next) c.owed-owed.ensures c.if-owed-eq0.false (omega arith) (omega arith)
    c.in_ok-release.ensures refl refl refl

pub returns-in_err-release : goal.returns-in_err-release
returns-in_err-release c =
    let made = err_from_is_err_and c.from_residual.result c.from_residual.ensures.1 in
    rw (made.1, made.2) (refuses_stream c.args.self.now c.loop-id.self _ c.in-Some.id
    c.owed-owed.result _ (comes_to c.args.self.now c.loop-id.self c.loop-id.last c.in-Some.id
    c.loop-id.invariant c.in-Some.ensures.next) c.owed-owed.ensures c.if-owed-eq0.false
    (omega arith) (omega arith) c.in_err-release.ensures refl refl refl)

pub returns : goal.returns
returns c =
    ends_release c.args.self.now c.loop-id.self c.loop-id.last c.none-self.result
    c.loop-id.invariant c.in_default.ensures.next
