-- The window is that of each connection, or wider.
use Rattle.std.proofs.Common.{arith}
use Rattle.h2_get.specs.Windows.{ask_more, have_window}
use Rattle.h2_get.proofs.begin.widen_several.Goals as goal

pub returns-then-count-eq0-clause-ok : goal.returns-then-count-eq0-clause-ok
returns-then-count-eq0-clause-ok c =
    have_window (omega (arith, c.if-count-eq0.true, c.saturating_sub-count.ensures))

pub returns-in-Ok-clause-ok : goal.returns-in-Ok-clause-ok
returns-in-Ok-clause-ok c =
    ask_more c.widen.new.self
    (omega (arith, c.if-count-eq0.false, c.saturating_sub-count.ensures))
    (rw c.saturating_sub-count.ensures at c.in-Ok.ensures)
