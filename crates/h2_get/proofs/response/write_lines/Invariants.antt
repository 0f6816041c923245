-- The lines of the fields so far are written.
use Rattle.std.proofs.Common.{take, flat_map}
use Rattle.std.specs.Io.KnownBytes.{Appends}
use Rattle.h2_get.specs.Responses.{response_part}
use Rattle.h2_get.proofs.response.write_lines.Given as goal

abbrev pub invariant-loop-field : goal.invariant-loop-field
invariant-loop-field g l =
    Appends (g.W.Write.contents l.initial.out) (g.W.Write.contents l.out)
    (flat_map response_part (take l.field-index l.fields))
