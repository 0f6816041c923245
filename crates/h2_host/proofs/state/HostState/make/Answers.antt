use Rattle.std.proofs.Common.{arith}
use Rattle.h2_host.proofs.Refusals.{few_after, few_of, frame_twice, made_steps, others_after}
use Rattle.h2_host.proofs.state.HostState.make.Goals as goal

pub make_one-requires-clause-few : goal.make_one-requires-clause-few
make_one-requires-clause-few g c =
    few_of g.P.Party.steps g.P.Party.held_of g.P.Party.ready_of c.args.self.now c.requires.sound

pub fit_one-requires-clause-now : goal.fit_one-requires-clause-now
fit_one-requires-clause-now g c =
    (c.in_ok-answer.ensures.made.step.after, c.in_ok-answer.ensures.made.step.is)

pub fit_one-requires-clause-few : goal.fit_one-requires-clause-few
fit_one-requires-clause-few g c =
    few_after g.P.Party.steps g.P.Party.held_of g.P.Party.ready_of c.args.self.now
    c.make_one.new.self c.args.token c.args.own c.args.octets.now c.in_ok-answer.answer
    c.requires.sound c.in_ok-answer.ensures.made

pub fit_one-requires-clause-others : goal.fit_one-requires-clause-others
fit_one-requires-clause-others g c =
    others_after g.P.Party.steps g.P.Party.held_of g.P.Party.ready_of c.args.self.now
    c.make_one.new.self c.args.token c.args.own c.args.octets.now c.in_ok-answer.answer
    c.requires.sound c.in_ok-answer.ensures.made c.make_one.ensures.frame

pub fit_all-requires-clause-few : goal.fit_all-requires-clause-few
fit_all-requires-clause-few g c =
    let few = few_after g.P.Party.steps g.P.Party.held_of g.P.Party.ready_of c.args.self.now
    c.make_one.new.self c.args.token c.args.own c.args.octets.now c.in_ok-answer.answer
    c.requires.sound c.in_ok-answer.ensures.made in
    let less = c.fit_one.ensures.few in omega (arith, few, less)

pub returns-clause-made : goal.returns-clause-made
returns-clause-made g c =
    made_steps g.P.Party.steps g.P.Party.held_of g.P.Party.ready_of c.args.self.now
    c.make_one.new.self c.fit_one.new.self c.fit_all.new.self c.args.token c.args.own
    c.args.octets.now c.in_ok-answer.answer c.in_ok-answer.ensures.made c.make_one.ensures.frame
    c.fit_one.ensures.refused c.fit_one.ensures.frame c.fit_all.ensures.fits

pub returns-clause-frame : goal.returns-clause-frame
returns-clause-frame g c =
    frame_twice c.args.self.now c.fit_one.new.self c.fit_all.new.self
    (frame_twice c.args.self.now c.make_one.new.self c.fit_one.new.self c.make_one.ensures.frame
    c.fit_one.ensures.frame) c.fit_all.ensures.frame
