-- Stream by stream, by the lemmas on what could go.
use Rattle.h2_ends.proofs.Names.{arith}
use Rattle.h2_ends.proofs.QuietSends.{stuck_begins, stuck_passes, stuck_everywhere, goes_there}
use Rattle.h2_ends.proofs.end.End.could_send.Goals as goal

pub loop-id-init : goal.loop-id-init
loop-id-init c =
    stuck_begins c.args.self.now c.saturating_sub-last.result c.saturating_sub-last.ensures

pub loop-id-smaller : goal.loop-id-smaller
loop-id-smaller c = omega (arith, c.in-Some.ensures.above)

pub returns-then-could_send_on-clause-some : goal.returns-then-could_send_on-clause-some
returns-then-could_send_on-clause-some c = λ values end is yes.
    goes_there c.args.self.now c.loop-id.last c.in-Some.id c.in-Some.ensures.next values end is
    (λ alive. c.could_send_on.ensures.some values end is alive c.if-could_send_on.true)

pub loop-id-preserved : goal.loop-id-preserved
loop-id-preserved c =
    stuck_passes c.args.self.now c.loop-id.last c.in-Some.id c.loop-id.invariant
    c.in-Some.ensures.next (λ values end is up.
    c.could_send_on.ensures.none values end is up c.if-could_send_on.false)

pub returns-clause-none : goal.returns-clause-none
returns-clause-none c = λ values end is up no.
    stuck_everywhere c.args.self.now c.loop-id.last c.loop-id.invariant c.in_default.ensures.next
    values end is up
