use Rattle.std.proofs.Common.{◌∙◌, subst, inr, List}
use Rattle.hpack.specs.declared.types.field.Field.{Field}
use Rattle.belkjoef.specs.Given.{TrailsWith}
use Rattle.belkjoef.specs.Helds.{held_end}
use Rattle.belkjoef.proofs.OnPlaces.{read_back}
use Rattle.belkjoef.proofs.held.Held.send_trailers_copied.Goals as goal

pub returns-in-Ok : goal.returns-in-Ok
returns-in-Ok c = inr record {
  outcome = c.send_trailers.result;
  told = read_back c.of_end_answer.type_inv ∙ c.of_end_answer.ensures;
  does = subst (λ (list : List Field). TrailsWith c.args.stream list (held_end c.args.self.now)
      c.send_trailers.result (held_end c.send_trailers.new.self))
      (c.deref.ensures.value ∙ c.in-Ok.ensures) c.send_trailers.ensures.does;
  keeps = c.send_trailers.ensures.keeps;
}
