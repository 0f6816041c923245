use Rattle.h2_message.proofs.Names.{◌≡◌, drop, first_broken}
use Rattle.h2_message.proofs.verdict.first_broken.Given as goal

abbrev pub invariant-loop-holds : goal.invariant-loop-holds
invariant-loop-holds l = first_broken (drop l.holds-index l.rules) ≡ first_broken l.rules
