use Rattle.std.proofs.Common.{◌∙◌, ap, sym, ℤ}
use Rattle.std.specs.Prelude.{Some}
use Rattle.h2_spec_log.specs.Acts.{SendFields}
use Rattle.belkjoef.specs.Conns.{DoesConn, ActsOnConn}
use Rattle.belkjoef.specs.Given.{Copies, fields_given}
use Rattle.belkjoef.specs.Numbers.{answer_number}
use Rattle.belkjoef.proofs.OnPlaces.{on_place_told, read_back}
use Rattle.belkjoef.proofs.conn_calls.bj_conn_send_fields.Goals as goal

pub returns : goal.returns
returns c =
    on_place_told (λ (z : ℤ). Copies z (DoesConn answer_number
    (ActsOnConn (SendFields c.args.stream (fields_given c.args.fields.now) c.args.ends)) z))
    (read_back c.send_fields_with-answer.type_inv)
    (c.in-Some.ensures.value ∙ ap Some (sym c.deref_mut.ensures.value))
    c.keep.ensures c.send_fields_with-answer.ensures
