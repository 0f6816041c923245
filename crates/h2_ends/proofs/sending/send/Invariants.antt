-- Whatever had happened when it began, the message is under way; the rest of the body shrinks.
use Rattle.h2_ends.proofs.Names.{◌-◌, length}
use Rattle.h2_ends.proofs.SendingBody.{IsGoing}
use Rattle.h2_ends.proofs.sending.send.Given as goal

abbrev pub invariant-loop-waiting : goal.invariant-loop-waiting
invariant-loop-waiting l =
    IsGoing l.initial.conn l.id l.initial.waiting l.initial.count l.conn l.waiting l.count

abbrev pub decreases-loop-waiting : goal.decreases-loop-waiting
decreases-loop-waiting l = length l.waiting.body.items - l.waiting.sent
