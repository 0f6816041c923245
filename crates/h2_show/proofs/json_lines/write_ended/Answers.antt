-- The object is that of a list that is too large.
use Rattle.h2_show.proofs.json_lines.write_ended.Goals as goal

pub returns-in-TooLarge : goal.returns-in-TooLarge
returns-in-TooLarge g c = rw c.in-TooLarge.is c.write_json_line.ensures
