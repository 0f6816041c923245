-- The lines of the fields so far are written.
use Rattle.h2_show.proofs.Names.{take, flat_map, Appends}
use Rattle.h2_show.specs.StyledLines.{styled_field}
use Rattle.h2_show.proofs.styled_lines.write_styled_fields.Given as goal

abbrev pub invariant-loop-place : goal.invariant-loop-place
invariant-loop-place g l =
    Appends (g.W.Write.contents l.initial.out) (g.W.Write.contents l.out)
    (flat_map (styled_field l.colors) (take l.place l.list))
