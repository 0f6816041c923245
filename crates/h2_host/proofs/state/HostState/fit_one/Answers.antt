use Rattle.h2_host.proofs.Refusals.{each_kept, own_refused, refuses_none}
use Rattle.h2_host.proofs.state.HostState.fit_one.Goals as goal

pub returns-then-held-most-clause-refused : goal.returns-then-held-most-clause-refused
returns-then-held-most-clause-refused g c =
    refuses_none g.P.Party.steps g.P.Party.held_of g.P.Party.ready_of c.args.self.now c.args.token
    c.held_at-held.result c.held_at-held.ensures c.if-held-most.true

pub returns-then-held-most-clause-each : goal.returns-then-held-most-clause-each
returns-then-held-most-clause-each g c =
    each_kept g.P.Party.steps g.P.Party.held_of g.P.Party.ready_of c.args.self.now c.args.token
    c.held_at-held.result c.requires.others c.held_at-held.ensures c.if-held-most.true

pub returns-clause-refused : goal.returns-clause-refused
returns-clause-refused g c =
    (own_refused g.P.Party.steps g.P.Party.held_of g.P.Party.ready_of c.args.self.now
    c.make_one.new.self c.args.token c.held_at-held.result c.make_one.result c.requires.others
    c.held_at-held.ensures c.if-held-most.false c.make_one.ensures.made c.make_one.ensures.frame).0

pub returns-clause-few : goal.returns-clause-few
returns-clause-few g c =
    (own_refused g.P.Party.steps g.P.Party.held_of g.P.Party.ready_of c.args.self.now
    c.make_one.new.self c.args.token c.held_at-held.result c.make_one.result c.requires.others
    c.held_at-held.ensures c.if-held-most.false c.make_one.ensures.made c.make_one.ensures.frame).1

pub returns-clause-each : goal.returns-clause-each
returns-clause-each g c =
    (own_refused g.P.Party.steps g.P.Party.held_of g.P.Party.ready_of c.args.self.now
    c.make_one.new.self c.args.token c.held_at-held.result c.make_one.result c.requires.others
    c.held_at-held.ensures c.if-held-most.false c.make_one.ensures.made c.make_one.ensures.frame).2
