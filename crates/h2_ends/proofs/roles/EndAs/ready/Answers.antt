use Rattle.h2_ends.proofs.Names.{refl, Count}
use Rattle.h2_ends.proofs.ControlSteps.{controls}
use Rattle.h2_ends.proofs.roles.EndAs.ready.Goals as goal

pub returns-clause-answers : goal.returns-clause-answers
returns-clause-answers g c =
    controls c.args.self.now.end _ refl refl refl (λ done. Count 0) _ _ c.ready.ensures.answers
    (λ done i is. cc) tt
