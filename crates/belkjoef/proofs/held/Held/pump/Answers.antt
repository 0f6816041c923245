use Rattle.std.proofs.Common.{sym, subst}
use Rattle.h2_ends.specs.Represents.{EndPumps}
use Rattle.belkjoef.specs.declared.held.Side.{Side}
use Rattle.belkjoef.specs.Helds.{end_in}
use Rattle.belkjoef.proofs.held.Held.pump.Goals as goal

pub returns-in-Client-clause-does : goal.returns-in-Client-clause-does
returns-in-Client-clause-does c =
    subst (λ (s : Side). EndPumps (end_in s) c.pump.result
    c.pump.new.self.end) (sym c.in-Client.is) c.pump.ensures

pub returns-in-Server-clause-does : goal.returns-in-Server-clause-does
returns-in-Server-clause-does c =
    subst (λ (s : Side). EndPumps (end_in s) c.pump-in-Server.result
    c.pump-in-Server.new.self.end) (sym c.in-Server.is) c.pump-in-Server.ensures
