use Rattle.h2_server.proofs.giving.give.Goals as goal

pub returns-in-Fails : goal.returns-in-Fails
returns-in-Fails c = rw c.in-Fails.is (c.give_status.ensures c.args.to_head c.args.refused)

pub returns-in-Begins : goal.returns-in-Begins
returns-in-Begins c = rw (c.in-Begins.is, c.if-to_head.true) (c.give_head.ensures c.args.refused)

pub returns-in-Begins-2 : goal.returns-in-Begins-2
returns-in-Begins-2 c = rw (c.in-Begins.is, c.if-to_head.false) (c.begin.ensures c.args.refused)

pub returns-in-Trails : goal.returns-in-Trails
returns-in-Trails c = rw c.in-Trails.is (c.trail.ensures c.args.to_head c.args.refused)

pub returns-in-Resets : goal.returns-in-Resets
returns-in-Resets c = rw c.in-Resets.is (c.reset.ensures c.args.to_head c.args.refused)
