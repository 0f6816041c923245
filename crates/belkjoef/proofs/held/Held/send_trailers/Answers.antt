use Rattle.std.proofs.Common.{sym, subst}
use Rattle.belkjoef.specs.Given.{TrailsWith}
use Rattle.belkjoef.specs.declared.held.Side.{Side}
use Rattle.belkjoef.specs.Helds.{end_in}
use Rattle.belkjoef.proofs.held.Held.send_trailers.Goals as goal

pub returns-in-Client-clause-does : goal.returns-in-Client-clause-does
returns-in-Client-clause-does c =
    subst (λ (s : Side). TrailsWith c.args.stream c.args.trailers.now
    (end_in s) c.send_trailers.result
    c.send_trailers.new.self.end) (sym c.in-Client.is) c.send_trailers.ensures

pub returns-in-Server-clause-does : goal.returns-in-Server-clause-does
returns-in-Server-clause-does c =
    subst (λ (s : Side). TrailsWith c.args.stream c.args.trailers.now
    (end_in s) c.send_trailers-in-Server.result
    c.send_trailers-in-Server.new.self.end) (sym c.in-Server.is) c.send_trailers-in-Server.ensures
