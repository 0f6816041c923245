-- The names so far are the same.
use Rattle.std.proofs.Common.{◌≡◌}
use Rattle.std.specs.Prelude.{take}
use Rattle.h2_files.specs.Paths.{texts}
use Rattle.h2_folder.proofs.recent.are_same.Given as goal

abbrev pub invariant-loop-place : goal.invariant-loop-place
invariant-loop-place l = take l.place (texts l.fn.names) ≡ take l.place (texts l.fn.others)
