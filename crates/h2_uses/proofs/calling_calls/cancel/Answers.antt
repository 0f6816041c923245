-- The call was refused so.
use Rattle.h2_uses.proofs.calling_calls.cancel.Goals as goal

pub returns-in-Err-TooManyResets-clause-most : goal.returns-in-Err-TooManyResets-clause-most
returns-in-Err-TooManyResets-clause-most c = λ _.
    rw (c.in-Err-TooManyResets.is, c.in-Err-TooManyResets.field-0-is, c.number.ensures)
    at c.reset.ensures
