-- Act by act.
use Rattle.h2_settle.proofs.ActsMade.{makes_no_act, makes_next, stops_at, makes_round}
use Rattle.h2_settle.proofs.ActsMade.{makes_none_failed}
use Rattle.h2_settle.proofs.rounds.make_round.Goals as goal

pub returns-in-Some : goal.returns-in-Some
returns-in-Some c = makes_none_failed c.args.joined.now c.in-Some.side c.in-Some.ensures

pub loop-act-init : goal.loop-act-init
loop-act-init c = makes_no_act c.args.joined.now c.in_default.ensures

pub loop-act-preserved : goal.loop-act-preserved
loop-act-preserved c =
    makes_next c.round_acts-acts.result c.round_acts-acts.ensures c.loop-act.act-index
    c.loop-act-test.true c.act-item.result c.args.joined.now c.loop-act.joined
    c.make_act.new.joined c.loop-act.invariant c.in-Whole.ensures

pub returns-in_default-make_act : goal.returns-in_default-make_act
returns-in_default-make_act c =
    stops_at c.round_acts-acts.result c.round_acts-acts.ensures c.loop-act.act-index
    c.loop-act-test.true c.act-item.result c.args.joined.now c.loop-act.joined
    c.make_act.new.joined c.make_act.result c.loop-act.invariant c.make_act.ensures
    c.in_default-make_act.not-Whole

pub returns : goal.returns
returns c =
    makes_round c.round_acts-acts.result c.round_acts-acts.ensures c.loop-act.act-index
    c.args.joined.now c.loop-act.joined c.loop-act-test.false c.loop-act.invariant
