use Rattle.std.proofs.Common.{sym, subst}
use Rattle.h2_ends.specs.Represents.{EndReleases}
use Rattle.belkjoef.specs.declared.held.Side.{Side}
use Rattle.belkjoef.specs.Helds.{end_in}
use Rattle.belkjoef.proofs.held.Held.release_all.Goals as goal

pub returns-in-Client-clause-does : goal.returns-in-Client-clause-does
returns-in-Client-clause-does c =
    subst (λ (s : Side). EndReleases (end_in s) c.release_all.result
    c.release_all.new.self.end) (sym c.in-Client.is) c.release_all.ensures

pub returns-in-Server-clause-does : goal.returns-in-Server-clause-does
returns-in-Server-clause-does c =
    subst (λ (s : Side). EndReleases (end_in s) c.release_all-in-Server.result
    c.release_all-in-Server.new.self.end) (sym c.in-Server.is) c.release_all-in-Server.ensures
