-- By what each act counts.
use Rattle.h2_laws_quiet.proofs.WorkOfActs.{driving_falls}
use Rattle.h2_laws_quiet.proofs.working.driving_makes_no_work.Goals as goal

pub returns : goal.returns
returns c = driving_falls
