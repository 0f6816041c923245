use Rattle.std.proofs.Common.{sym, subst}
use Rattle.belkjoef.specs.Calls.{ConsumesEnd}
use Rattle.belkjoef.specs.declared.held.Side.{Side}
use Rattle.belkjoef.specs.Helds.{end_in}
use Rattle.belkjoef.proofs.held.Held.consume.Goals as goal

pub returns-in-Client-clause-does : goal.returns-in-Client-clause-does
returns-in-Client-clause-does c =
    subst (λ (s : Side). ConsumesEnd c.args.count (end_in s) c.consume.result
    c.consume.new.self.end) (sym c.in-Client.is) c.consume.ensures.answers

pub returns-in-Server-clause-does : goal.returns-in-Server-clause-does
returns-in-Server-clause-does c =
    subst (λ (s : Side). ConsumesEnd c.args.count (end_in s) c.consume-in-Server.result
    c.consume-in-Server.new.self.end) (sym c.in-Server.is) c.consume-in-Server.ensures.answers
