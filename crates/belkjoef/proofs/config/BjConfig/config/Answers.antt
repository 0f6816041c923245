use Rattle.std.proofs.Common.{arith}
use Rattle.std.proofs.lemmas.Bool.Decides.{nat_tests}
use Rattle.h2_flow.specs.Configs.{first_bad}
use Rattle.belkjoef.proofs.config.BjConfig.config.Goals as goal

pub returns-in_err-new-clause-bad : goal.returns-in_err-new-clause-bad
unfolding first_bad
returns-in_err-new-clause-bad c = grind (arith, nat_tests)
