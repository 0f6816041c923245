use Rattle.h2_message.proofs.VerdictRules.{broken-here, broken-later, none-broken}
use Rattle.h2_message.proofs.verdict.first_broken.Goals as goal

pub returns-then-holds : goal.returns-then-holds
returns-then-holds c =
    broken-here c.args.rules.now c.loop-holds.holds-index _ c.loop-holds-test.true
    c.if-holds.true c.loop-holds.invariant

pub loop-holds-preserved : goal.loop-holds-preserved
loop-holds-preserved c =
    broken-later c.args.rules.now c.loop-holds.holds-index _ c.loop-holds-test.true
    c.if-holds.false c.loop-holds.invariant

pub returns : goal.returns
returns c =
    none-broken c.args.rules.now c.loop-holds.holds-index c.loop-holds-test.false
    c.loop-holds.invariant
