-- By the lemmas on what is found at a place.
use Rattle.h2_joined.proofs.Names.{arith}
use Rattle.h2_joined.proofs.KeptParts.{found_last, found_other}
use Rattle.h2_joined.proofs.kept.Kept.place_of.Goals as goal

pub returns-then-index-id : goal.returns-then-index-id
returns-then-index-id c =
    found_last c.args.self.now.accepted.items c.args.id c.loop-place.place c.index.result.now
    c.loop-place-test.true c.loop-place.invariant.within c.index.ensures c.if-index-id.true
    c.loop-place.invariant.none

pub loop-place-preserved : goal.loop-place-preserved
loop-place-preserved c =
    let before = c.loop-place.invariant.within in
    record {
      within = omega (arith, before);
      none = found_other c.args.self.now.accepted.items c.args.id c.loop-place.place
          c.index.result.now c.loop-place-test.true c.loop-place.invariant.within c.index.ensures
          c.if-index-id.false c.loop-place.invariant.none;
    }
