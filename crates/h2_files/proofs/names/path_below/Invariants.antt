use Rattle.std.proofs.Common.{◌≡◌, ◌++◌, drop, string_bytes}
use Rattle.h2_files.specs.Paths.{below, texts}
use Rattle.h2_files.proofs.names.path_below.Given as goal

abbrev pub invariant-loop-name : goal.invariant-loop-name
invariant-loop-name l =
    string_bytes l.path ++ below (texts (drop l.name-index l.names))
    ≡ l.root ++ below (texts l.names)
