-- The object is that of the block that has ended.
use Rattle.h2_show.proofs.json_lines.write_too_large.Goals as goal

pub returns-in-Some : goal.returns-in-Some
returns-in-Some g c = rw c.in-Some.is c.write_ended.ensures
