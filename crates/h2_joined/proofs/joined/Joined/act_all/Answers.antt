-- Act by act.
use Rattle.h2_joined.proofs.Names.{both_ways}
use Rattle.h2_joined.proofs.RunActs.{makes_none, makes_next, stops_there, makes_all}
use Rattle.h2_joined.proofs.joined.Joined.act_all.Goals as goal

pub loop-act-init : goal.loop-act-init
loop-act-init c = makes_none c.args.self.now

pub loop-act-preserved : goal.loop-act-preserved
loop-act-preserved c =
    makes_next c.args.acts.now c.loop-act.act-index c.act-item.result c.act.result c.args.self.now
    c.loop-act.self c.act.new.self c.loop-act-test.true c.act-item.is c.loop-act.invariant
    c.act.ensures (c.was_refused_memory.ensures.0 c.if-was_refused_memory.false)

pub returns-then-was_refused_memory-clause-err : goal.returns-then-was_refused_memory-clause-err
returns-then-was_refused_memory-clause-err c =
    stops_there c.args.acts.now c.loop-act.act-index c.act-item.result c.act.result
    c.args.self.now c.loop-act.self c.act.new.self c.loop-act-test.true c.act-item.is
    c.loop-act.invariant c.act.ensures
    (λ memory. both_ways _ (c.was_refused_memory.ensures.1 memory) c.if-was_refused_memory.true)

pub returns-clause-ok : goal.returns-clause-ok
returns-clause-ok c =
    makes_all c.args.acts.now c.loop-act.act-index c.args.self.now c.loop-act.self
    c.loop-act-test.false c.loop-act.invariant
