use Rattle.belkjoef.proofs.TakenEvents.{says_handed, says_nothing, says_fault}
use Rattle.belkjoef.proofs.taking.client_takes.Goals as goal

pub returns-in-Some : goal.returns-in-Some
returns-in-Some c = says_handed c.args.client.now.end c.take.follows.lender-at-none.end
    c.args.octets.now c.args.event.now c.say.new.self
    c.in-Ok.taken c.in-Some.handed c.in-Some.is c.say.ensures
    (rw c.in-Ok.is at c.take.follows.holds-at-none)

pub returns-in-None : goal.returns-in-None
returns-in-None c = says_nothing c.args.client.now.end c.take.follows.lender-at-none.end
    c.args.octets.now c.args.event.now c.in-Ok.taken
    c.in-None.is (rw c.in-Ok.is at c.take.follows.holds-at-none)

pub returns-in-Err : goal.returns-in-Err
returns-in-Err c = says_fault c.args.client.now.end c.take.follows.lender-at-none.end
    c.args.octets.now c.args.event.now c.in-Err.fault
    c.number-event.result c.number-event.ensures
    (rw c.in-Err.is at c.take.follows.holds-at-none)
