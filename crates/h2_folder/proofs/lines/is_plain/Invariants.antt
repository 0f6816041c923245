-- The fields so far are no conditions.
use Rattle.std.proofs.Common.{◌≡◌}
use Rattle.h2_folder.specs.Lines.{asked_in}
use Rattle.h2_folder.proofs.lines.is_plain.Given as goal

abbrev pub invariant-loop-field : goal.invariant-loop-field
invariant-loop-field l = asked_in l.field-iterator ≡ asked_in l.fn.list
