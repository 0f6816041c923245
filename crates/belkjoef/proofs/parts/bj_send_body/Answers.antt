use Rattle.std.proofs.Common.{◌∙◌, ap, sym}
use Rattle.std.specs.Prelude.{Some}
use Rattle.belkjoef.proofs.OnPlaces.{on_place, read_back}
use Rattle.belkjoef.proofs.parts.bj_send_body.Goals as goal

pub returns-clause-call : goal.returns-clause-call
returns-clause-call c = on_place _ _ (c.in-Some.ensures.value ∙ ap Some
    (sym c.deref_mut.ensures.value))
    c.keep.ensures record {
      outcome = c.send_body-answer.result;
      told = read_back c.of_end_count.type_inv ∙ c.of_end_count.ensures.number;
      value = c.of_end_count.ensures.count;
      does = c.send_body-answer.ensures.does;
      keeps = c.send_body-answer.ensures.keeps;
    }
