-- By the tests of the code, which are those of the definition.
use Rattle.std.proofs.Common.{arith}
use Rattle.std.proofs.lemmas.Bool.Decides.{nat_tests}
use Rattle.h2_flow.specs.Configs.{first_bad}
use Rattle.h2_flow.proofs.config.Config.new.Goals as goal

pub returns-then-table_limit-gt-MAX_TABLE_LIMIT-clause-bad
    : goal.returns-then-table_limit-gt-MAX_TABLE_LIMIT-clause-bad
unfolding first_bad
returns-then-table_limit-gt-MAX_TABLE_LIMIT-clause-bad c = grind (arith, nat_tests)

pub returns-then-initial_window-gt-GREATEST_WINDOW-clause-bad
    : goal.returns-then-initial_window-gt-GREATEST_WINDOW-clause-bad
unfolding first_bad
returns-then-initial_window-gt-GREATEST_WINDOW-clause-bad c = grind (arith, nat_tests)

pub returns-then-max_streams-gt-MOST_MAX_STREAMS-clause-bad
    : goal.returns-then-max_streams-gt-MOST_MAX_STREAMS-clause-bad
unfolding first_bad
returns-then-max_streams-gt-MOST_MAX_STREAMS-clause-bad c = grind (arith, nat_tests)

pub returns-else-max_streams-gt-MOST_MAX_STREAMS-clause-good
    : goal.returns-else-max_streams-gt-MOST_MAX_STREAMS-clause-good
unfolding first_bad
returns-else-max_streams-gt-MOST_MAX_STREAMS-clause-good c = grind (arith, nat_tests)
