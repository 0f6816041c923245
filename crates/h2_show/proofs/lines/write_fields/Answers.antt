-- Each turn writes the line of the next field.
use Rattle.h2_show.proofs.Names.{◌≡◌, ◌<◌, ◌≤◌, length, Some, arith, Field, field_line}
use Rattle.std.specs.List.{slice_get}
use Rattle.hpack.specs.FieldLists.{field_lent}
use Rattle.h2_show.proofs.LinesLemmas.{next_field}
use Rattle.h2_show.proofs.lines.write_fields.Goals as goal
use Rattle.h2_show.proofs.lines.write_fields.Goals.{in-Some+in_ok-write_field, in_default}

pub loop-place-preserved : goal.loop-place-preserved
loop-place-preserved g c =
    let list = c.args.list.now in
    let place = c.loop-place.place in
    elim c.match-get.branch [
      | in-Some+in_ok-write_field w ↦
          let next : Field = field_lent w.in-Some.field in
          let there : slice_get list place ≡ Some next = w.in-Some.ensures in
          rw w.out-is (next_field field_line list place next _ _ _ there c.loop-place.invariant
          w.in_ok-write_field.ensures)
      | in_default w ↦
          let below : place < length list = rw c.len-place-end.ensures at c.loop-place-test.true in
          let above : length list ≤ place = w.in_default.ensures in
          absurd (omega arith)
    ]
