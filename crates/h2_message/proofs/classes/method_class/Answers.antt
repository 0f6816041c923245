use Rattle.h2_message.proofs.Names.{codes, true}
use Rattle.h2_message.proofs.ClassLemmas.{get-class, post-class}
use Rattle.h2_message.proofs.ScanPseudo.{compared}
use Rattle.h2_message.proofs.classes.method_class.Goals as goal

pub returns-then-eq : goal.returns-then-eq
returns-then-eq c =
    get-class c.args.value.now
    (compared _ _ (codes "GET") _ true c.eq.ensures c.as_slice.ensures c.if-eq.true)

pub returns-then-eq-2 : goal.returns-then-eq-2
returns-then-eq-2 c =
    post-class c.args.value.now
    (compared _ _ (codes "POST") _ true c.eq-2.ensures c.as_slice-2.ensures c.if-eq-2.true)
