-- What the buffer makes of the piece.
use Rattle.h2_wire.proofs.cutter.Cutter.advance.Goals as goal

pub returns-clause-checked : goal.returns-clause-checked
returns-clause-checked c = rw (← c.self.view_is) c.take.ensures.checked
