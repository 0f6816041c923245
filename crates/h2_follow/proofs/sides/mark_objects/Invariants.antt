-- What was added, and what is still to be: the lines with their marks.
use Rattle.std.proofs.Common.{◌≡◌, ◌++◌, true, drop}
use Rattle.h2_follow.specs.Sides.{objects_with}
use Rattle.h2_follow.proofs.sides.mark_objects.Given as goal

abbrev pub invariant-loop-octet : goal.invariant-loop-octet
invariant-loop-octet l =
    l.lines.items ++ objects_with l.mark l.starts (drop l.octet-index l.text)
    ≡ l.initial.lines.items ++ objects_with l.mark true l.text
