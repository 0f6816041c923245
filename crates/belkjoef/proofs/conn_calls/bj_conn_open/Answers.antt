use Rattle.std.proofs.Common.{◌∙◌, ap, sym, ℤ}
use Rattle.std.specs.Prelude.{Some}
use Rattle.belkjoef.specs.Conns.{DoesConnWith, OpensOnConn}
use Rattle.belkjoef.specs.Given.{Copies, stream_or, fields_given}
use Rattle.belkjoef.specs.Numbers.{answer_number}
use Rattle.belkjoef.proofs.OnPlaces.{on_place_told, read_back}
use Rattle.belkjoef.proofs.conn_calls.bj_conn_open.Goals as goal

pub returns-clause-call : goal.returns-clause-call
returns-clause-call c =
    on_place_told (λ (z : ℤ). Copies z (DoesConnWith answer_number (stream_or c.args.stream.now)
    (OpensOnConn (fields_given c.args.fields.now) c.args.ends) z
    c.open_with-answer.new.stream))
    (read_back c.open_with-answer.type_inv)
    (c.in-Some.ensures.value ∙ ap Some (sym c.deref_mut.ensures.value))
    c.keep.ensures c.open_with-answer.ensures.call
