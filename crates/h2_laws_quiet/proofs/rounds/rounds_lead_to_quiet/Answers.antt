-- By what both ends do in a round.
use Rattle.h2_laws_quiet.proofs.RoundQuiet.{after_a_round}
use Rattle.h2_laws_quiet.proofs.rounds.rounds_lead_to_quiet.Goals as goal

pub returns : goal.returns
returns c = after_a_round
