-- The last peak is lent.
use Rattle.h2_follow.proofs.PeakLemmas.{ends_lent}
use Rattle.std.proofs.Common.{rules}
use Rattle.h2_follow.proofs.peaks.ends_below.Goals as goal

pub returns-in-Some : goal.returns-in-Some
returns-in-Some c =
    ends_lent c.args.number c.in-Some.last.now c.args.peaks.now.items c.in-Some.ensures.item.3.0
    (search rules)
