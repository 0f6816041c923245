-- The call was refused so.
use Rattle.h2_uses.proofs.calling_calls.widen.Goals as goal

pub returns-in-Err-OutputFull-clause-full : goal.returns-in-Err-OutputFull-clause-full
returns-in-Err-OutputFull-clause-full c = λ _.
    rw (c.in-Err-OutputFull.is, c.in-Err-OutputFull.field-0-is) at c.widen.ensures
