use Rattle.std.proofs.Common.{sym, subst}
use Rattle.belkjoef.specs.Calls.{SendsBody}
use Rattle.belkjoef.specs.declared.held.Side.{Side}
use Rattle.belkjoef.specs.Helds.{end_in}
use Rattle.belkjoef.proofs.held.Held.send_body.Goals as goal

pub returns-in-Client-clause-does : goal.returns-in-Client-clause-does
returns-in-Client-clause-does c =
    subst (λ (s : Side). SendsBody c.args.id c.args.octets.now c.args.ends
    (end_in s) c.send_body.result
    c.send_body.new.self.end) (sym c.in-Client.is) c.send_body.ensures

pub returns-in-Server-clause-does : goal.returns-in-Server-clause-does
returns-in-Server-clause-does c =
    subst (λ (s : Side). SendsBody c.args.id c.args.octets.now c.args.ends
    (end_in s) c.send_body-in-Server.result
    c.send_body-in-Server.new.self.end) (sym c.in-Server.is) c.send_body-in-Server.ensures
