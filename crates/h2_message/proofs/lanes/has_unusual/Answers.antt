use Rattle.h2_message.proofs.Names.{sym, ◌∙◌, is_unusual, arith}
use Rattle.h2_message.proofs.LaneLemmas.{run_settles, last_settles}
use Rattle.h2_message.proofs.lanes.has_unusual.Goals as goal

pub returns-then-lane_has_unusual : goal.returns-then-lane_has_unusual
returns-then-lane_has_unusual c =
    let found = sym c.lane_has_unusual.ensures ∙ c.if-lane_has_unusual.true in
    run_settles is_unusual c.args.octets.now _ _ c.as_chunks.ensures.front
    c.as_chunks.ensures.back c.loop-lane.lane-index c.loop-lane-test.true found

pub returns : goal.returns
returns c =
    last_settles is_unusual c.args.octets.now _ _ c.as_chunks.ensures.front
    c.as_chunks.ensures.back c.loop-lane.lane-index c.loop-lane-test.false c.loop-lane.invariant
    (omega arith) _ (omega arith) c.run_has_unusual.result c.run_has_unusual.ensures
