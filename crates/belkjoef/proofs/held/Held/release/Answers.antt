use Rattle.std.proofs.Common.{sym, subst}
use Rattle.h2_spec_log.specs.Acts.{Release}
use Rattle.belkjoef.specs.Calls.{ActsOnEnd}
use Rattle.belkjoef.specs.declared.held.Side.{Side}
use Rattle.belkjoef.specs.Helds.{end_in}
use Rattle.belkjoef.proofs.held.Held.release.Goals as goal

pub returns-in-Client-clause-does : goal.returns-in-Client-clause-does
returns-in-Client-clause-does c =
    subst (λ (s : Side). ActsOnEnd (Release c.args.id c.args.count) (end_in s) c.release.result
    c.release.new.self.end) (sym c.in-Client.is) c.release.ensures

pub returns-in-Server-clause-does : goal.returns-in-Server-clause-does
returns-in-Server-clause-does c =
    subst (λ (s : Side). ActsOnEnd (Release c.args.id c.args.count)
    (end_in s) c.release-in-Server.result
    c.release-in-Server.new.self.end) (sym c.in-Server.is) c.release-in-Server.ensures
