use Rattle.std.proofs.Common.{◌∙◌, ap, refl, subst, sym}
use Rattle.h2_message.specs.Values.{message_value}
use Rattle.belkjoef.specs.declared.held.Side.{Side}
use Rattle.belkjoef.specs.Given.{RespondsWith}
use Rattle.belkjoef.specs.Helds.{end_in, side_role}
use Rattle.belkjoef.proofs.OnPlaces.{at_server, read_back}
use Rattle.belkjoef.proofs.held.Held.respond.Goals as goal

pub returns-in-Server : goal.returns-in-Server
returns-in-Server c = at_server _ _ (ap side_role c.in-Server.is) record {
  outcome = c.respond.result;
  told = read_back c.of_reply.type_inv ∙ c.of_reply.ensures;
  does = subst (λ (s : Side). RespondsWith c.args.stream (message_value c.args.message) (end_in s)
      c.respond.result c.respond.new.self.end) (sym c.in-Server.is) c.respond.ensures;
  keeps = record { role = sym (ap side_role c.in-Server.is); users = refl };
}
