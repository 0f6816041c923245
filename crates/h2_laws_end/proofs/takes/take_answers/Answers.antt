-- By the lemmas on takes.
use Rattle.h2_laws_end.proofs.OneTake.{one_take}
use Rattle.h2_laws_end.proofs.TakeAnswers.{take_closed, log_after_take, some_answer}
use Rattle.h2_laws_end.proofs.takes.take_answers.Goals as goal

pub returns-clause-closed : goal.returns-clause-closed
returns-clause-closed c = take_closed

pub returns-clause-after : goal.returns-clause-after
returns-clause-after c = log_after_take

pub returns-clause-some : goal.returns-clause-some
returns-clause-some c = some_answer

pub returns-clause-one : goal.returns-clause-one
returns-clause-one c = one_take
