use Rattle.std.proofs.Common.{◌∙◌, subst, inr, List}
use Rattle.hpack.specs.declared.types.field.Field.{Field}
use Rattle.h2_spec_log.specs.Acts.{SendFields}
use Rattle.belkjoef.specs.Conns.{ActsOnConn}
use Rattle.belkjoef.proofs.OnPlaces.{read_back}
use Rattle.belkjoef.proofs.conn.HeldConn.send_fields_copied.Goals as goal

pub returns-in-Ok : goal.returns-in-Ok
returns-in-Ok c = inr record {
  outcome = c.fields.result;
  told = read_back c.of_answer.type_inv ∙ c.of_answer.ensures;
  does = subst (λ (list : List Field). ActsOnConn (SendFields c.args.stream list c.args.ends)
      c.args.self.now.conn c.fields.result c.fields.new.self)
      (c.deref.ensures.value ∙ c.in-Ok.ensures) c.fields.ensures.answers;
}
