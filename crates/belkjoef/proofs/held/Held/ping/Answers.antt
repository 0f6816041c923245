use Rattle.std.proofs.Common.{sym, subst}
use Rattle.h2_spec_log.specs.Acts.{SendPing}
use Rattle.belkjoef.specs.Calls.{ActsOnEnd}
use Rattle.belkjoef.specs.declared.held.Side.{Side}
use Rattle.belkjoef.specs.Helds.{end_in}
use Rattle.belkjoef.proofs.held.Held.ping.Goals as goal

pub returns-in-Client-clause-does : goal.returns-in-Client-clause-does
returns-in-Client-clause-does c =
    subst (λ (s : Side). ActsOnEnd (SendPing c.args.octets) (end_in s) c.ping.result
    c.ping.new.self.end) (sym c.in-Client.is) c.ping.ensures

pub returns-in-Server-clause-does : goal.returns-in-Server-clause-does
returns-in-Server-clause-does c =
    subst (λ (s : Side). ActsOnEnd (SendPing c.args.octets) (end_in s) c.ping-in-Server.result
    c.ping-in-Server.new.self.end) (sym c.in-Server.is) c.ping-in-Server.ensures
