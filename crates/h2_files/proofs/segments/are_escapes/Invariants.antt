use Rattle.std.proofs.Common.{◌≡◌, ◌≤◌, drop}
use Rattle.h2_files.specs.Paths.{are_escapes}
use Rattle.h2_files.proofs.segments.are_escapes.Given as goal

abbrev pub invariant-loop-octet : goal.invariant-loop-octet
invariant-loop-octet l =
    (l.due ≤ 2) × (are_escapes l.due (drop l.octet-index l.segment) ≡ are_escapes 0 l.segment)
