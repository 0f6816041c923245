use Rattle.h2_ends.proofs.Names.{refl, Count}
use Rattle.h2_ends.proofs.ControlSteps.{controls}
use Rattle.h2_ends.proofs.roles.EndAs.put_out.Goals as goal

pub returns-clause-answers : goal.returns-clause-answers
returns-clause-answers g c =
    controls c.args.self.now.end _ refl refl refl (λ given. Count given) _ _ c.put_out.ensures.answers
    (λ given i is. cc) tt
