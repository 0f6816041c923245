-- By the tests of the code, and by the bounds of the other values.
use Rattle.std.proofs.Common.{arith}
use Rattle.std.proofs.lemmas.Bool.Decides.{nat_tests}
use Rattle.h2_flow.specs.Configs.{first_bad}
use Rattle.h2_flow.proofs.config.Config.with_max_frame.Goals as goal

pub returns-then-max_frame-lt-LEAST_MAX_FRAME-clause-bad :
    goal.returns-then-max_frame-lt-LEAST_MAX_FRAME-clause-bad
unfolding first_bad
returns-then-max_frame-lt-LEAST_MAX_FRAME-clause-bad c = grind (arith, nat_tests)

pub returns-clause-good : goal.returns-clause-good
unfolding first_bad
returns-clause-good c = grind (arith, nat_tests)
