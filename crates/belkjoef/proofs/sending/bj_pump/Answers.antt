use Rattle.std.proofs.Common.{◌∙◌, ap, sym}
use Rattle.std.specs.Prelude.{Some}
use Rattle.belkjoef.proofs.OnPlaces.{on_place, read_back}
use Rattle.belkjoef.proofs.sending.bj_pump.Goals as goal

pub returns-clause-call : goal.returns-clause-call
returns-clause-call c = on_place _ _ (c.in-Some.ensures.value ∙ ap Some
    (sym c.deref_mut.ensures.value))
    c.keep.ensures record {
      outcome = c.pump-answer.result;
      told = read_back c.of_end_count.type_inv ∙ c.of_end_count.ensures.number;
      value = c.of_end_count.ensures.count;
      does = c.pump-answer.ensures.does;
      keeps = c.pump-answer.ensures.keeps;
    }
