-- What was added, and what is still to be.
use Rattle.std.proofs.Common.{◌≡◌, ◌++◌, drop}
use Rattle.h2_page.specs.Page.{escaped}
use Rattle.h2_page.proofs.page.add_escaped.Given as goal

abbrev pub invariant-loop-octet : goal.invariant-loop-octet
invariant-loop-octet l =
    l.page.items ++ escaped (drop l.octet-index l.lines)
    ≡ l.initial.page.items ++ escaped l.lines
