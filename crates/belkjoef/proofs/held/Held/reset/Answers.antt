use Rattle.std.proofs.Common.{sym, subst}
use Rattle.h2_spec_log.specs.Acts.{ResetStream}
use Rattle.belkjoef.specs.Calls.{ActsOnEnd}
use Rattle.belkjoef.specs.declared.held.Side.{Side}
use Rattle.belkjoef.specs.Helds.{end_in}
use Rattle.belkjoef.proofs.held.Held.reset.Goals as goal

pub returns-in-Client-clause-does : goal.returns-in-Client-clause-does
returns-in-Client-clause-does c =
    subst (λ (s : Side). ActsOnEnd (ResetStream c.args.id c.args.code) (end_in s) c.reset.result
    c.reset.new.self.end) (sym c.in-Client.is) c.reset.ensures

pub returns-in-Server-clause-does : goal.returns-in-Server-clause-does
returns-in-Server-clause-does c =
    subst (λ (s : Side). ActsOnEnd (ResetStream c.args.id c.args.code)
    (end_in s) c.reset-in-Server.result
    c.reset-in-Server.new.self.end) (sym c.in-Server.is) c.reset-in-Server.ensures
