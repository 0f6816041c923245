-- By whether it was refused memory, and which end has failed.
use Rattle.std.proofs.lemmas.Bool.{both_ways}
use Rattle.h2_settle.proofs.rounds.make_act.Goals as goal

pub returns-then-was_refused_memory : goal.returns-then-was_refused_memory
returns-then-was_refused_memory c = (
  c.act.result,
  c.act.ensures,
  λ memory. both_ways _ (c.was_refused_memory.ensures.1 memory) c.if-was_refused_memory.true,
)

pub returns-in-Some : goal.returns-in-Some
returns-in-Some c = (
  c.act.result,
  c.act.ensures,
  (c.was_refused_memory.ensures.0 c.if-was_refused_memory.false, c.in-Some.ensures),
)

pub returns-in-None : goal.returns-in-None
returns-in-None c = (
  c.act.result,
  c.act.ensures,
  (c.was_refused_memory.ensures.0 c.if-was_refused_memory.false, c.in-None.ensures),
)
