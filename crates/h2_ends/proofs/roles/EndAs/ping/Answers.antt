use Rattle.h2_ends.proofs.Names.{refl, Done}
use Rattle.h2_ends.proofs.ControlSteps.{controls}
use Rattle.h2_ends.proofs.roles.EndAs.ping.Goals as goal

pub returns : goal.returns
returns g c =
    controls c.args.self.now.end _ refl refl refl (λ done. Done) _ _ c.ping.ensures
    (λ done i is. cc) tt
