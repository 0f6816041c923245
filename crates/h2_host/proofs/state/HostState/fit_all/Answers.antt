use Rattle.h2_host.proofs.Refusals.{fitting_begins, fitting_on, fitting_over}
use Rattle.h2_host.proofs.state.HostState.fit_all.Goals as goal

pub loop-self-init : goal.loop-self-init
loop-self-init g c =
    fitting_begins g.P.Party.steps g.P.Party.held_of g.P.Party.ready_of c.args.self.now
    c.requires.steady c.requires.each

pub loop-self-preserved : goal.loop-self-preserved
loop-self-preserved g c =
    (fitting_on g.P.Party.steps g.P.Party.held_of g.P.Party.ready_of c.args.self.now
    c.loop-self.self c.make_one.new.self c.in-Some.token c.make_one.result c.loop-self.invariant
    c.loop-self-test.true c.in-Some.ensures c.make_one.ensures.made c.make_one.ensures.steady
    c.make_one.ensures.frame).0

pub loop-self-smaller : goal.loop-self-smaller
loop-self-smaller g c =
    (fitting_on g.P.Party.steps g.P.Party.held_of g.P.Party.ready_of c.args.self.now
    c.loop-self.self c.make_one.new.self c.in-Some.token c.make_one.result c.loop-self.invariant
    c.loop-self-test.true c.in-Some.ensures c.make_one.ensures.made c.make_one.ensures.steady
    c.make_one.ensures.frame).1

pub returns-clause-fits : goal.returns-clause-fits
returns-clause-fits g c =
    (fitting_over g.P.Party.steps g.P.Party.held_of g.P.Party.ready_of c.args.self.now
    c.loop-self.self c.loop-self.invariant c.loop-self-test.false).0

pub returns-clause-sound : goal.returns-clause-sound
returns-clause-sound g c =
    (fitting_over g.P.Party.steps g.P.Party.held_of g.P.Party.ready_of c.args.self.now
    c.loop-self.self c.loop-self.invariant c.loop-self-test.false).1

pub returns-clause-frame : goal.returns-clause-frame
returns-clause-frame g c =
    (fitting_over g.P.Party.steps g.P.Party.held_of g.P.Party.ready_of c.args.self.now
    c.loop-self.self c.loop-self.invariant c.loop-self-test.false).2
