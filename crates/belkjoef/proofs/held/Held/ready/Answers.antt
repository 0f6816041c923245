use Rattle.std.proofs.Common.{sym, subst}
use Rattle.belkjoef.specs.Calls.{ReadiesEnd}
use Rattle.belkjoef.specs.declared.held.Side.{Side}
use Rattle.belkjoef.specs.Helds.{end_in}
use Rattle.belkjoef.proofs.held.Held.ready.Goals as goal

pub returns-in-Client-clause-does : goal.returns-in-Client-clause-does
returns-in-Client-clause-does c =
    subst (λ (s : Side). ReadiesEnd (end_in s) c.ready.result
    c.ready.new.self.end) (sym c.in-Client.is) c.ready.ensures.answers

pub returns-in-Server-clause-does : goal.returns-in-Server-clause-does
returns-in-Server-clause-does c =
    subst (λ (s : Side). ReadiesEnd (end_in s) c.ready-in-Server.result
    c.ready-in-Server.new.self.end) (sym c.in-Server.is) c.ready-in-Server.ensures.answers
