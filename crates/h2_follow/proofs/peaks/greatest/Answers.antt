-- The first peak is the greatest number.
use Rattle.std.proofs.Common.{arith}
use Rattle.h2_follow.proofs.PeakLemmas.{greatest_lent, greatest_none}
use Rattle.h2_follow.proofs.peaks.greatest.Goals as goal

pub returns-in-Some : goal.returns-in-Some
returns-in-Some c = λ numbers known.
    greatest_lent c.args.least c.in-Some.first.now c.max.result c.args.peaks.now.items numbers
    c.max.ensures c.in-Some.ensures.item.3.0 c.in-Some.ensures.item.1 known

pub returns-in-None : goal.returns-in-None
returns-in-None c = λ numbers known.
    let none = c.in-None.ensures.item.3 in
    greatest_none c.args.least c.args.peaks.now.items numbers (omega (arith, none)) known
