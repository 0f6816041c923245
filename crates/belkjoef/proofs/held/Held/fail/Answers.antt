use Rattle.std.proofs.Common.{sym, subst}
use Rattle.h2_spec_log.specs.Acts.{Fail}
use Rattle.belkjoef.specs.Calls.{ActsOnEnd}
use Rattle.belkjoef.specs.declared.held.Side.{Side}
use Rattle.belkjoef.specs.Helds.{end_in}
use Rattle.belkjoef.proofs.held.Held.fail.Goals as goal

pub returns-in-Client-clause-does : goal.returns-in-Client-clause-does
returns-in-Client-clause-does c =
    subst (λ (s : Side). ActsOnEnd (Fail c.args.code) (end_in s) c.fail.result
    c.fail.new.self.end) (sym c.in-Client.is) c.fail.ensures

pub returns-in-Server-clause-does : goal.returns-in-Server-clause-does
returns-in-Server-clause-does c =
    subst (λ (s : Side). ActsOnEnd (Fail c.args.code) (end_in s) c.fail-in-Server.result
    c.fail-in-Server.new.self.end) (sym c.in-Server.is) c.fail-in-Server.ensures
