use Rattle.std.proofs.Common.{subst, sym}
use Rattle.h2_host.specs.declared.host.Reply.TheVariants as replies
use Rattle.h2_host.specs.Steps.{AnswersStep}
use Rattle.h2_host.proofs.state.HostState.step.Goals as goal

pub returns-in-Opened-clause-answers : goal.returns-in-Opened-clause-answers
returns-in-Opened-clause-answers g c =
    subst (λ s. AnswersStep g.P.Party.steps g.P.Party.held_of g.P.Party.ready_of c.args.self.now
    c.open.new.self s c.args.octets.now c.open.result)
    (sym c.in-Opened.is) c.open.ensures.answers

pub returns-in-Own-clause-answers : goal.returns-in-Own-clause-answers
returns-in-Own-clause-answers g c =
    subst (λ s. AnswersStep g.P.Party.steps g.P.Party.held_of g.P.Party.ready_of c.args.self.now
    c.step_of.new.self s c.args.octets.now c.step_of.result)
    (sym c.in-Own.is) c.step_of.ensures.answers

pub returns-in-Passed-clause-answers : goal.returns-in-Passed-clause-answers
returns-in-Passed-clause-answers g c =
    subst (λ s. AnswersStep g.P.Party.steps g.P.Party.held_of g.P.Party.ready_of c.args.self.now
    c.pass.new.self s c.args.octets.now c.pass.result)
    (sym c.in-Passed.is) c.pass.ensures.answers

pub returns-in-Closed-clause-answers : goal.returns-in-Closed-clause-answers
returns-in-Closed-clause-answers g c =
    subst (λ s. AnswersStep g.P.Party.steps g.P.Party.held_of g.P.Party.ready_of c.args.self.now
    c.close.new.self s c.args.octets.now c.close.result)
    (sym c.in-Closed.is) c.close.ensures.answers

pub returns-in-NextTurn-clause-answers : goal.returns-in-NextTurn-clause-answers
returns-in-NextTurn-clause-answers g c =
    subst (λ s. AnswersStep g.P.Party.steps g.P.Party.held_of g.P.Party.ready_of c.args.self.now
    c.give_turn.new.self s c.args.octets.now (replies.Turn c.give_turn.result))
    (sym c.in-NextTurn.is) c.give_turn.ensures.turn
