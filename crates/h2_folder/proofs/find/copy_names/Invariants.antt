-- The names so far are copied.
use Rattle.std.proofs.Common.{◌≡◌}
use Rattle.std.specs.Prelude.{take}
use Rattle.h2_files.specs.Paths.{texts}
use Rattle.h2_folder.proofs.find.copy_names.Given as goal

abbrev pub invariant-loop-name : goal.invariant-loop-name
invariant-loop-name l = texts l.copies.items ≡ texts (take l.name-index l.names)
