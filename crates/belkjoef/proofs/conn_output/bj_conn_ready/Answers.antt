use Rattle.std.proofs.Common.{◌∙◌, ap, sym}
use Rattle.std.specs.Prelude.{Some}
use Rattle.belkjoef.proofs.OnPlaces.{on_place, read_back}
use Rattle.belkjoef.proofs.ReadyConns.{holds_ready_conn}
use Rattle.belkjoef.proofs.conn_output.bj_conn_ready.Goals as goal

pub returns-clause-call : goal.returns-clause-call
returns-clause-call c =
    on_place _ _ (c.in-Some.ensures.value ∙ ap Some (sym c.deref_mut.ensures.value))
    c.keep.ensures record {
      outcome = c.ready-answer.result;
      told = read_back c.of_answer.type_inv ∙ c.of_answer.ensures;
      does = c.ready-answer.ensures.answers;
    }

pub returns-clause-ready : goal.returns-clause-ready
returns-clause-ready c = λ is. holds_ready_conn c.ready-answer.result
    (read_back c.of_answer.type_inv ∙ c.of_answer.ensures) is c.keep.ensures
    c.ready-answer.ensures.returned
