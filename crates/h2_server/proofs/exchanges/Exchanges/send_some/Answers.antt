use Rattle.h2_server.specs.Exchanges.{handling_of}
use Rattle.h2_server.proofs.CreditSteps.{then_credit_on}
use Rattle.h2_server.proofs.StepsMade.{nothing_handles, then_handles}
use Rattle.h2_server.proofs.exchanges.Exchanges.send_some.Goals as goal

pub returns-then-is_some-clause-handles : goal.returns-then-is_some-clause-handles
returns-then-is_some-clause-handles g c =
    nothing_handles c.args.server.now.end (handling_of c.args.self.now)

pub returns-in_err-give_waiting-clause-handles : goal.returns-in_err-give_waiting-clause-handles
returns-in_err-give_waiting-clause-handles g c =
    then_handles c.return_credit.ensures c.give_waiting.ensures

pub returns-in_err-pump-clause-handles : goal.returns-in_err-pump-clause-handles
returns-in_err-pump-clause-handles g c =
    then_handles (then_handles c.return_credit.ensures c.give_waiting.ensures) c.pump.ensures

pub returns-in_err-ask-clause-handles : goal.returns-in_err-ask-clause-handles
returns-in_err-ask-clause-handles g c =
    then_handles (then_handles (then_handles c.return_credit.ensures c.give_waiting.ensures)
    c.pump.ensures) c.ask.ensures.handles

pub returns-in_err-settle-clause-handles : goal.returns-in_err-settle-clause-handles
returns-in_err-settle-clause-handles g c =
    then_handles (then_handles (then_handles (then_handles c.return_credit.ensures
    c.give_waiting.ensures) c.pump.ensures) c.ask.ensures.handles) c.settle.ensures

pub returns-then-waits-clause-handles : goal.returns-then-waits-clause-handles
returns-then-waits-clause-handles g c =
    then_handles (then_handles (then_handles (then_handles (then_handles c.return_credit.ensures
    c.give_waiting.ensures) c.pump.ensures) c.ask.ensures.handles) c.settle.ensures)
    c.release.ensures.handles

pub returns-then-waits-clause-returned : goal.returns-then-waits-clause-returned
returns-then-waits-clause-returned g c =
    λ waits. then_credit_on c.release.new.server.end
    (handling_of c.release.new.self) c.release.result
    (then_handles (then_handles (then_handles (then_handles c.return_credit.ensures
    c.give_waiting.ensures) c.pump.ensures) c.ask.ensures.handles) c.settle.ensures)
    c.release.ensures.returned

pub returns-clause-handles : goal.returns-clause-handles
returns-clause-handles g c =
    then_handles (then_handles (then_handles (then_handles c.return_credit.ensures
    c.give_waiting.ensures) c.pump.ensures) c.ask.ensures.handles) c.settle.ensures
