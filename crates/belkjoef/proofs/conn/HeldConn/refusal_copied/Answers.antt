use Rattle.std.proofs.Common.{◌∙◌, subst, inr, List, refl}
use Rattle.hpack.specs.declared.types.field.Field.{Field}
use Rattle.belkjoef.specs.Conns.{RefusesToOpen}
use Rattle.belkjoef.proofs.OnPlaces.{read_back}
use Rattle.belkjoef.proofs.conn.HeldConn.refusal_copied.Goals as goal

pub returns-in-Ok : goal.returns-in-Ok
returns-in-Ok c = inr record {
  outcome = c.refusal.ensures.outcome;
  told = read_back c.refusal.type_inv ∙ c.refusal.ensures.told;
  is = subst (λ (list : List Field). RefusesToOpen list c.args.self.now.conn
      c.refusal.ensures.outcome)
      (c.deref.ensures.value ∙ c.in-Ok.ensures) c.refusal.ensures.is;
  same = refl;
}
