use Rattle.h2_message.proofs.Names.{sym, ◌∙◌, is_bad_in_value}
use Rattle.h2_message.proofs.LaneLemmas.{run_settles, rest_settles}
use Rattle.h2_message.proofs.lanes.scan_value.Goals as goal

pub returns-then-lane_is_bad_in_value : goal.returns-then-lane_is_bad_in_value
returns-then-lane_is_bad_in_value c =
    let found = sym c.lane_is_bad_in_value.ensures ∙ c.if-lane_is_bad_in_value.true in
    run_settles is_bad_in_value c.args.octets.now _ _ c.as_chunks.ensures.front
    c.as_chunks.ensures.back c.loop-lane.lane-index c.loop-lane-test.true found

pub returns : goal.returns
returns c =
    rest_settles is_bad_in_value c.args.octets.now _ _ c.as_chunks.ensures.front
    c.as_chunks.ensures.back c.loop-lane.lane-index c.loop-lane-test.false c.loop-lane.invariant
    c.loop-octet.bad c.loop-octet.octet-index c.loop-octet-test.false c.loop-octet.invariant
