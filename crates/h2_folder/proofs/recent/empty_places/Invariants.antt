-- No place so far holds a file.
use Rattle.std.proofs.Common.{Contains, Some}
use Rattle.h2_folder.specs.Recents.{KeptFile}
use Rattle.h2_folder.proofs.recent.empty_places.Given as goal

abbrev pub invariant-loop : goal.invariant-loop
invariant-loop l = (one : KeptFile) → Contains l.places.items (Some one) → ⊥
