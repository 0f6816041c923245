use Rattle.std.proofs.Common.{◌∙◌, ap, sym}
use Rattle.std.specs.Prelude.{Some}
use Rattle.belkjoef.proofs.OnPlaces.{on_place, read_back}
use Rattle.belkjoef.proofs.ReadyConns.{conn_fine_if_ready}
use Rattle.belkjoef.proofs.conn_output.bj_conn_consume.Goals as goal

pub returns-clause-call : goal.returns-clause-call
returns-clause-call c =
    on_place _ _ (c.in-Some.ensures.value ∙ ap Some (sym c.deref_mut.ensures.value))
    c.keep.ensures record {
      outcome = c.consume-answer.result;
      told = read_back c.of_count.type_inv ∙ c.of_count.ensures.number;
      value = c.of_count.ensures.count;
      does = c.consume-answer.ensures.answers;
    }

pub returns-clause-room : goal.returns-clause-room
returns-clause-room c = conn_fine_if_ready c.consume-answer.result
    (read_back c.of_count.type_inv ∙ c.of_count.ensures.number)
    (c.in-Some.ensures.value ∙ ap Some (sym c.deref_mut.ensures.value))
    c.consume-answer.ensures.room
