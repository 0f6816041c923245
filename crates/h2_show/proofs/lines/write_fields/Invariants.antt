-- The lines of the fields so far are written.
use Rattle.h2_show.proofs.Names.{take, flat_map, Appends, field_line}
use Rattle.h2_show.proofs.lines.write_fields.Given as goal

abbrev pub invariant-loop-place : goal.invariant-loop-place
invariant-loop-place g l =
    Appends (g.W.Write.contents l.initial.out) (g.W.Write.contents l.out)
    (flat_map field_line (take l.place l.list))
