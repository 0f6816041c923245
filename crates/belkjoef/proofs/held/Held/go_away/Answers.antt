use Rattle.std.proofs.Common.{sym, subst}
use Rattle.h2_spec_log.specs.Acts.{SendGoAway}
use Rattle.belkjoef.specs.Calls.{ActsOnEnd}
use Rattle.belkjoef.specs.declared.held.Side.{Side}
use Rattle.belkjoef.specs.Helds.{end_in}
use Rattle.belkjoef.proofs.held.Held.go_away.Goals as goal

pub returns-in-Client-clause-does : goal.returns-in-Client-clause-does
returns-in-Client-clause-does c =
    subst (λ (s : Side). ActsOnEnd SendGoAway (end_in s) c.go_away.result
    c.go_away.new.self.end) (sym c.in-Client.is) c.go_away.ensures

pub returns-in-Server-clause-does : goal.returns-in-Server-clause-does
returns-in-Server-clause-does c =
    subst (λ (s : Side). ActsOnEnd SendGoAway (end_in s) c.go_away-in-Server.result
    c.go_away-in-Server.new.self.end) (sym c.in-Server.is) c.go_away-in-Server.ensures
