use Rattle.std.proofs.Common.{sym, subst, ℤ}
use Rattle.belkjoef.specs.declared.held.Side.{Side}
use Rattle.belkjoef.specs.Helds.{end_in, held_end}
use Rattle.belkjoef.specs.Events.{TakesEvent}
use Rattle.belkjoef.proofs.OnPlaces.{read_back}
use Rattle.belkjoef.proofs.held.Held.take.Goals as goal

pub returns-in-Client-clause-takes : goal.returns-in-Client-clause-takes
returns-in-Client-clause-takes c =
    subst (λ (z : ℤ). TakesEvent (held_end c.args.self.now) c.args.octets.now c.args.event.now
    c.client_takes.new.event z c.client_takes.new.client.end)
    (sym (read_back c.client_takes.type_inv))
    (subst (λ (s : Side). TakesEvent (end_in s) c.args.octets.now c.args.event.now
    c.client_takes.new.event c.client_takes.result c.client_takes.new.client.end)
    (sym c.in-Client.is)
    c.client_takes.ensures)

pub returns-in-Server-clause-takes : goal.returns-in-Server-clause-takes
returns-in-Server-clause-takes c =
    subst (λ (z : ℤ). TakesEvent (held_end c.args.self.now) c.args.octets.now c.args.event.now
    c.server_takes.new.event z c.server_takes.new.server.end)
    (sym (read_back c.server_takes.type_inv))
    (subst (λ (s : Side). TakesEvent (end_in s) c.args.octets.now c.args.event.now
    c.server_takes.new.event c.server_takes.result c.server_takes.new.server.end)
    (sym c.in-Server.is)
    c.server_takes.ensures)
