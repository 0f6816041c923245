-- The date is that of the second.
use Rattle.h2_folder.proofs.answer.date_of.Goals as goal

pub returns-in-Ok : goal.returns-in-Ok
returns-in-Ok c = (c.in-Ok.date, c.in-Ok.ensures.value, c.to_bytes.ensures)
