use Rattle.std.proofs.Common.{◌∙◌, ap, sym, ℤ}
use Rattle.std.specs.Prelude.{Some}
use Rattle.belkjoef.specs.Conns.{AnswersOfConn, RefusesToOpen, refusal_answer}
use Rattle.belkjoef.specs.Given.{Copies, fields_given}
use Rattle.belkjoef.proofs.OnPlaces.{on_place_told, read_back}
use Rattle.belkjoef.proofs.conn_calls.bj_conn_refusal_to_open.Goals as goal

pub returns : goal.returns
returns c =
    on_place_told (λ (z : ℤ). Copies z (AnswersOfConn refusal_answer
    (RefusesToOpen (fields_given c.args.fields.now)) z))
    (read_back c.refusal_with-answer.type_inv)
    (c.in-Some.ensures.value ∙ ap Some (sym c.deref_mut.ensures.value))
    c.keep.ensures c.refusal_with-answer.ensures
