-- By one round after another.
use Rattle.h2_laws_quiet.proofs.ManyRounds.{get_quiet}
use Rattle.h2_laws_quiet.proofs.rounds.driven_ends_get_quiet.Goals as goal

pub returns : goal.returns
returns c = get_quiet
