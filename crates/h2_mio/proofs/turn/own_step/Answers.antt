use Rattle.h2_mio.proofs.turn.own_step.Goals as goal

pub returns : goal.returns
returns g c = record { answers = (c.step.result, c.step.ensures.answers) }
