-- What is kept fits as before, and the cutter represents the same stream.
use Rattle.h2_wire.proofs.Names.{state_of}
use Rattle.h2_wire.proofs.LimitLemmas.{is_limited}
use Rattle.h2_wire.proofs.cutter.Cutter.set_limit.Goals as goal

pub returns : goal.returns
returns c =
    rw (← c.self.view_is, c.max-self-inside.ensures)
    (is_limited (state_of c.self.inside.buffer) c.args.limit)
