use Rattle.std.proofs.Common.{◌∙◌, ap, sym}
use Rattle.std.specs.Prelude.{Some}
use Rattle.belkjoef.proofs.OnPlaces.{on_place, read_back}
use Rattle.belkjoef.proofs.conn_calls.bj_conn_send_data.Goals as goal

pub returns-clause-call : goal.returns-clause-call
returns-clause-call c =
    on_place _ _ (c.in-Some.ensures.value ∙ ap Some (sym c.deref_mut.ensures.value))
    c.keep.ensures record {
      outcome = c.data-answer.result;
      told = read_back c.of_count.type_inv ∙ c.of_count.ensures.number;
      value = c.of_count.ensures.count;
      does = c.data-answer.ensures.answers;
    }
