use Rattle.std.proofs.Common.{◌∙◌, ap, sym}
use Rattle.std.specs.Prelude.{Some}
use Rattle.belkjoef.proofs.OnPlaces.{on_place, read_back}
use Rattle.belkjoef.proofs.control.bj_release_all.Goals as goal

pub returns : goal.returns
returns c = on_place _ _ (c.in-Some.ensures.value ∙ ap Some (sym c.deref_mut.ensures.value))
    c.keep.ensures record {
      outcome = c.release_all-answer.result;
      told = read_back c.of_end_answer.type_inv ∙ c.of_end_answer.ensures;
      does = c.release_all-answer.ensures.does;
      keeps = c.release_all-answer.ensures.keeps;
    }
