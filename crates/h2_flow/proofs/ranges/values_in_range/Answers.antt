-- By the tests of the definition.
use Rattle.std.proofs.Common.{arith}
use Rattle.std.proofs.lemmas.Bool.Decides.{nat_tests}
use Rattle.h2_flow.specs.Configs.{first_bad}
use Rattle.h2_flow.proofs.ranges.values_in_range.Goals as goal

pub returns-clause-within : goal.returns-clause-within
unfolding first_bad
returns-clause-within c = λ values none. record {
  table_limit = grind (arith, nat_tests);
  least_window = grind (arith, nat_tests);
  initial_window = grind (arith, nat_tests);
  least_streams = grind (arith, nat_tests);
  max_streams = grind (arith, nat_tests);
  least_frame = grind (arith, nat_tests);
  max_frame = grind (arith, nat_tests);
}

pub returns-clause-none_bad : goal.returns-clause-none_bad
unfolding first_bad
returns-clause-none_bad c = λ values range. grind (arith, nat_tests)
