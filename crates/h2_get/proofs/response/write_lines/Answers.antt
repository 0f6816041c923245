-- Each turn writes the line of the next field.
use Rattle.std.proofs.Common.{length, arith, refl}
use Rattle.std.proofs.lemmas.Option.{slice_get_read}
use Rattle.h2_get.specs.Responses.{response_part}
use Rattle.h2_get.proofs.Appending.{next_part}
use Rattle.h2_get.proofs.response.write_lines.Goals as goal

pub loop-field-preserved : goal.loop-field-preserved
loop-field-preserved g c =
    let fields = c.args.fields.now in
    let place = c.loop-field.field-index in
    next_part response_part fields place c.field-item.result _ _ _
    (slice_get_read fields (length fields) place c.field-item.result refl (omega arith)
    c.field-item.is) c.loop-field.invariant c.in_ok-write_line.ensures
