use Rattle.std.proofs.Common.{◌∙◌, drop, arith}
use Rattle.core.proofs.iter.runs.Lists.{nth_drop}
use Rattle.belkjoef.proofs.LentFields.{lent_more}
use Rattle.belkjoef.proofs.fields.lend.Goals as goal

pub loop-place-preserved : goal.loop-place-preserved
loop-place-preserved c = rw c.say.ensures (lent_more (drop c.args.from c.args.list.now)
    c.args.fields.now c.in-Some.found (omega arith)
    (nth_drop c.args.from c.args.list.now c.loop-place.place ∙ c.in-Some.ensures {u = tt})
    c.loop-place.invariant)
