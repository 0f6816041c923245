-- The digits are those of the place, with zeros before them.
use Rattle.std.proofs.Common.{decimal}
use Rattle.h2_show.proofs.StyleLemmas.{padded_place}
use Rattle.h2_show.proofs.styled_lines.write_place.Goals as goal

pub returns-in-true : goal.returns-in-true
returns-in-true g c =
    rw c.in-true.is
    (rw (c.laid_out.ensures, padded_place (decimal c.args.at)) at c.write.ensures.bytes)
