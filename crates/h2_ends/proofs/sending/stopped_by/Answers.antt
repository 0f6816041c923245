-- Whether the output is full, by the match.
use Rattle.h2_ends.proofs.Names.{inl, inr, refl}
use Rattle.h2_ends.proofs.sending.stopped_by.Goals as goal

pub returns-in-OutputFull : goal.returns-in-OutputFull
returns-in-OutputFull c = inl (c.in-OutputFull.is, refl)

pub returns-in_default : goal.returns-in_default
returns-in_default c = inr (c.in_default.not-OutputFull, refl)
