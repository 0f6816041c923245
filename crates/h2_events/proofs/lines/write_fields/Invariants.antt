-- The lines of the fields so far are written.
use Rattle.std.proofs.Common.{take, flat_map}
use Rattle.std.specs.Io.KnownBytes.{Appends}
use Rattle.h2_show.specs.Lines.{field_line}
use Rattle.h2_events.proofs.lines.write_fields.Given as goal

abbrev pub invariant-loop-place : goal.invariant-loop-place
invariant-loop-place g l =
    Appends (g.W.Write.contents l.initial.out) (g.W.Write.contents l.out)
    (flat_map field_line (take l.place l.list))
