-- By what is known of two quiet ends.
use Rattle.h2_laws_quiet.proofs.ManyRounds.{no_work}
use Rattle.h2_laws_quiet.proofs.rounds.quiet_ends_have_no_work.Goals as goal

pub returns : goal.returns
returns c = no_work
