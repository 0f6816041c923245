-- Stream by stream, by the lemmas on what is owed.
use Rattle.h2_ends.proofs.Names.{arith}
use Rattle.h2_ends.proofs.QuietOwes.{owes_begins, owes_passes, owes_nowhere, owes_here}
use Rattle.h2_ends.proofs.end.End.owes.Goals as goal

pub loop-id-init : goal.loop-id-init
loop-id-init c =
    owes_begins c.args.self.now c.saturating_sub-last.result c.saturating_sub-last.ensures

pub returns-then-owed-ne0-clause-some : goal.returns-then-owed-ne0-clause-some
returns-then-owed-ne0-clause-some c = λ values end is yes.
    owes_here c.args.self.now c.in-Some.id c.owed.result c.owed.ensures c.if-owed-ne0.true values
    end is

pub loop-id-smaller : goal.loop-id-smaller
loop-id-smaller c = omega (arith, c.in-Some.ensures.above)

pub loop-id-preserved : goal.loop-id-preserved
loop-id-preserved c =
    owes_passes c.args.self.now c.loop-id.last c.in-Some.id c.owed.result c.loop-id.invariant
    c.in-Some.ensures.next c.owed.ensures c.if-owed-ne0.false

pub returns-clause-none : goal.returns-clause-none
returns-clause-none c = λ values end is up no.
    owes_nowhere c.args.self.now c.loop-id.last c.loop-id.invariant c.in_default.ensures.next
    values end is up
