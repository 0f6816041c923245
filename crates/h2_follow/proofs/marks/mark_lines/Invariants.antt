-- What was added, and what is still to be: the text after its mark.
use Rattle.std.proofs.Common.{◌≡◌, ◌++◌, true, drop}
use Rattle.h2_follow.specs.Follows.{marked}
use Rattle.h2_follow.proofs.marks.mark_lines.Given as goal

abbrev pub invariant-loop-octet : goal.invariant-loop-octet
invariant-loop-octet l =
    l.lines.items ++ marked l.mark l.starts (drop l.octet-index l.text)
    ≡ l.initial.lines.items ++ marked l.mark true l.text
