use Rattle.h2_message.proofs.Names.{breaks_length, arith, refl}
use Rattle.std.proofs.lemmas.Bool.Decides.{nat_tests}
use Rattle.h2_message.proofs.parts.BodyLength.check.Goals as goal

pub returns-in_default-clause-ok : goal.returns-in_default-clause-ok
unfolding breaks_length
returns-in_default-clause-ok c = rw c.in_default.is

pub returns-then-number-count-clause-err : goal.returns-then-number-count-clause-err
unfolding breaks_length
returns-then-number-count-clause-err c =
    let is = c.in-Some.is in
    let why = c.then-number-count.branch in
    (refl, grind (arith, nat_tests))

pub returns-clause-ok : goal.returns-clause-ok
unfolding breaks_length
returns-clause-ok c = rw c.in-Some.is (grind (arith, nat_tests))
