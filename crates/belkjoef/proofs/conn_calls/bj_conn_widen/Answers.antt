use Rattle.std.proofs.Common.{◌∙◌, ap, sym}
use Rattle.std.specs.Prelude.{Some}
use Rattle.belkjoef.proofs.OnPlaces.{on_place, read_back}
use Rattle.belkjoef.proofs.conn_calls.bj_conn_widen.Goals as goal

pub returns : goal.returns
returns c = on_place _ _ (c.in-Some.ensures.value ∙ ap Some (sym c.deref_mut.ensures.value))
    c.keep.ensures record {
      outcome = c.widen-answer.result;
      told = read_back c.of_answer.type_inv ∙ c.of_answer.ensures;
      does = c.widen-answer.ensures;
    }
