use Rattle.std.proofs.Common.{sym, subst}
use Rattle.belkjoef.specs.Given.{PumpsPass}
use Rattle.belkjoef.specs.declared.held.Side.{Side}
use Rattle.belkjoef.specs.Helds.{end_in}
use Rattle.belkjoef.proofs.held.Held.pump_some.Goals as goal

pub returns-in-Client-clause-does : goal.returns-in-Client-clause-does
returns-in-Client-clause-does c =
    subst (λ (s : Side). PumpsPass c.args.most (end_in s) c.pump_some.result
    c.pump_some.new.self.end) (sym c.in-Client.is) c.pump_some.ensures

pub returns-in-Server-clause-does : goal.returns-in-Server-clause-does
returns-in-Server-clause-does c =
    subst (λ (s : Side). PumpsPass c.args.most (end_in s) c.pump_some-in-Server.result
    c.pump_some-in-Server.new.self.end) (sym c.in-Server.is) c.pump_some-in-Server.ensures
