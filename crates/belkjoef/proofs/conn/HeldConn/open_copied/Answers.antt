use Rattle.std.proofs.Common.{◌∙◌, subst, inr, List}
use Rattle.hpack.specs.declared.types.field.Field.{Field}
use Rattle.belkjoef.specs.Conns.{OpensOnConn}
use Rattle.belkjoef.proofs.OnPlaces.{read_back}
use Rattle.belkjoef.proofs.conn.HeldConn.open_copied.Goals as goal

pub returns-in-Ok-clause-call : goal.returns-in-Ok-clause-call
returns-in-Ok-clause-call c = inr record {
  outcome = c.open.ensures.call.outcome;
  told = read_back c.open.type_inv ∙ c.open.ensures.call.told;
  value = c.open.ensures.call.value;
  does = subst (λ (list : List Field). OpensOnConn list c.args.ends c.args.self.now.conn
      c.open.ensures.call.outcome c.open.new.self.conn)
      (c.deref.ensures.value ∙ c.in-Ok.ensures) c.open.ensures.call.does;
}
