-- The octets so far are added.
use Rattle.std.proofs.Common.{◌≡◌, ◌++◌, take}
use Rattle.h2_folder.specs.LogLines.{log_octets}
use Rattle.h2_folder.proofs.log.add_escaped.Given as goal

abbrev pub invariant-loop-octet : goal.invariant-loop-octet
invariant-loop-octet l =
    l.line.items ≡ l.initial.line.items ++ log_octets (take l.octet-index l.octets)
