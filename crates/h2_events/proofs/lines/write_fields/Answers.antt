-- Each turn writes the line of the next field.
use Rattle.std.proofs.Common.{◌≡◌, ◌<◌, ◌≤◌, length, Some, arith}
use Rattle.std.specs.List.{slice_get}
use Rattle.std.proofs.lemmas.Option.{slice_get_within, get_or_from_slice_get}
use Rattle.hpack.specs.declared.types.field.Field.{Field}
use Rattle.hpack.specs.FieldLists.{field_lent}
use Rattle.h2_show.specs.Lines.{field_line}
use Rattle.h2_events.proofs.LineLemmas.{next_written}
use Rattle.h2_events.proofs.lines.write_fields.Goals as goal
use Rattle.h2_events.proofs.lines.write_fields.Goals.{in-Some+in_ok-write_field, in_default}

pub loop-place-preserved : goal.loop-place-preserved
loop-place-preserved g c =
    let list = c.args.list.now in
    let place = c.loop-place.place in
    elim c.match-get.branch [
      | in-Some+in_ok-write_field w ↦
          let next : Field = field_lent w.in-Some.field in
          let there : slice_get list place ≡ Some next = w.in-Some.ensures in
          rw w.out-is (
          next_written field_line list place next next _ _ _
          (slice_get_within list place next there)
          (get_or_from_slice_get list place next next there) c.loop-place.invariant
          w.in_ok-write_field.ensures
          )
      | in_default w ↦
          let below : place < length list = rw c.len-place-end.ensures at c.loop-place-test.true in
          let above : length list ≤ place = w.in_default.ensures in
          absurd (omega arith)
    ]
